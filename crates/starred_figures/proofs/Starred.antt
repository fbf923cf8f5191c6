-- The starred figures hold, by computation. Assumes nothing.
use mathlib.Core.Path.{refl}
use mathlib.Core.List.{flat_map}
use Rattle.chunk.specs.Number.{be, num}
use Rattle.chunk.specs.Chunk.{pad, chunk, counts, occupied}
use Rattle.chunk.specs.Rows.{first_rows, rows}
use Rattle.frame_time.specs.Time.{time_of}
use Rattle.tree.specs.Tree.{bytes, join, each}
use Rattle.checksum.specs.Crc.{bit, bits, byte_of, bytes_of, crc_of}
use Rattle.texts.specs.Extent.{part}
use Rattle.texts.specs.Text.{printable}
use Rattle.comt.specs.Comment.{written_comments, has_comt, comt}
use Rattle.dst.specs.Frame.{frame_bytes}
use Rattle.dst.specs.Unit.{unit_size}
use Rattle.dst.specs.Start.{sum, start}
use Rattle.dst.specs.Head.{rate, frte, data_size, head}
use Rattle.dst_index.specs.Index.{entry, joined, index, dsti}
use Rattle.prop_fields.specs.Compression.{compression_data}
use Rattle.prop.specs.Property.{chnl_data, property_chunk, property}
use Rattle.master_info.specs.Diin.{has_diin, diin}
use Rattle.refusal.specs.Below.{below}
use Rattle.refusal.specs.Orders.{times, each_once}
use Rattle.rows.specs.Lengths.{lengths_wrong}
use Rattle.row_extents.specs.Extents.{too_large, outside_pool}
use Rattle.rows.specs.Scalars.{has_no_scalar, no_scalars}
use Rattle.faults.specs.Caller.{caller_faults}
use Rattle.comment_faults.specs.Comments.{comment_faults}
use Rattle.build_options.specs.Options.{defaults, effective}
use Rattle.rules.specs.Limits.{any_too_large, any_outside, any_no_scalar, limit_faults}
use Rattle.area_rules.specs.Area.{area_fault, lengths_fault, range_fault, area_faults}
use Rattle.area_rules.specs.Master.{source_fault, edited_master_fault, track_faults}
use Rattle.rules.specs.Property.{numbers_fault, start_fault, property_faults}
use Rattle.rules.specs.Info.{info_faults}
use Rattle.local_rules.specs.Local.{lacks_any, order_faults}
use Rattle.checks.specs.InputVerdict.{given_faults, chunk_faults, verdict}
use Rattle.file_tree.specs.Sound.{sound_size, sound_head}
use Rattle.caller_chunks.specs.Caller.{caller_chunks}
use Rattle.file_tree.specs.Sides.{before, behind, local_bytes, front, back}
use Rattle.file_tree.specs.File.{place, header_of, trailer_of}
use Rattle.starred_figures.specs.StarredFigures.{StarredFigures}

pub starred : StarredFigures
unfolding flat_map be num pad chunk counts occupied first_rows rows time_of bytes join each bit bits byte_of bytes_of crc_of part printable written_comments has_comt comt frame_bytes unit_size sum start rate frte data_size head entry joined index dsti compression_data chnl_data property_chunk property has_diin diin below times each_once lengths_wrong too_large outside_pool has_no_scalar no_scalars caller_faults comment_faults defaults effective any_too_large any_outside any_no_scalar limit_faults area_fault lengths_fault range_fault area_faults source_fault edited_master_fault track_faults numbers_fault start_fault property_faults info_faults lacks_any order_faults given_faults chunk_faults verdict sound_size sound_head caller_chunks before behind local_bytes front back place header_of trailer_of
starred = record {
  dsd_prop = refl;
  dsd-header = refl;
  dsd-form = refl;
  dsd-file = refl;
  cmpr-19 = refl;
  cmpr-20 = refl;
  d1_form = refl;
  d1_only = refl;
  dst-header = refl;
  dst-size = refl;
  dst-form = refl;
  dst-file = refl;
  entries = refl;
  entries_data = refl;
  entries-crc = refl;
  crc-file = refl;
  last_time = refl;
  start-passes = refl;
  start-is-29 = refl;
  start-number = refl;
  start-detail = refl;
  crc-one = refl;
  crc-none = refl;
}
