-- The definitions that are opened where an instance is computed: to unfold a name of this file is to unfold all that its line names. Assumes nothing.
use mathlib.Core.List.{flat_map}
use Rattle.chunk.specs.Number.{be, num}
use Rattle.chunk_names.specs.Name.{same, among, reserved_names}
use Rattle.chunk.specs.Chunk.{pad, chunk, counts, occupied}
use Rattle.chunk.specs.Rows.{first_rows, rows}
use Rattle.tree.specs.Tree.{bytes, join, each}
use Rattle.tree.specs.Gather.{window, covered}
use Rattle.tree.specs.Reader.{cut, report, within, first, next, walk_in, walk, read}
use Rattle.tree.specs.Value.{inner, counted, comments, value}
use Rattle.frame_time.specs.Time.{time_of, time_bytes}
use Rattle.checksum.specs.Crc.{bit, bits, byte_of, bytes_of, crc_of}
use Rattle.texts.specs.Extent.{part}
use Rattle.texts.specs.Text.{printable, passes, substitute, text_byte, text_bytes, is_written, text_pad}
use Rattle.comt.specs.Comment.{comment_of, reference_of, comment_head, as_written, written_comment, written_comments, comment_bytes, comt_data, has_comt, comt, comt_chunk}
use Rattle.dst.specs.Frame.{frame_bytes, plain_bytes, dsd_sound}
use Rattle.dst.specs.Unit.{unit, unit_bytes, units, sound, unit_size}
use Rattle.dst.specs.Start.{sum, start}
use Rattle.dst.specs.Head.{rate, frte, data_size, head, dst}
use Rattle.dst_index.specs.Index.{entry, joined, index, dsti}
use Rattle.sound_reads.specs.Place.{first_where}
use Rattle.sound_reads.specs.Positions.{touched, past_last, range, positions_for}
use Rattle.sound_reads.specs.Lent.{is_lent, lent_frames, zero_frame, frames_with, contents_with}
use Rattle.prop_fields.specs.Compression.{compression_data}
use Rattle.prop.specs.Property.{chnl_data, property_chunk, property}
use Rattle.diin_texts.specs.DiinText.{diin_text_data, given_text_chunk}
use Rattle.markers.specs.Marker.{mark_head, mark_data, mark}
use Rattle.markers.specs.Custom.{kind_of, custom_of, customs}
use Rattle.master_info.specs.Diin.{markers_of, has_diin, diin}
use Rattle.refusal.specs.Below.{below}
use Rattle.refusal.specs.Orders.{times, each_once}
use Rattle.rows.specs.Lengths.{lengths_wrong}
use Rattle.row_extents.specs.Extents.{too_large, outside_pool}
use Rattle.rows.specs.Scalars.{has_no_scalar, no_scalars}
use Rattle.faults.specs.Caller.{caller_faults}
use Rattle.faults.specs.TextBytes.{has_no_text}
use Rattle.faults.specs.Marks.{marker_faults}
use Rattle.comment_faults.specs.Comments.{comment_faults}
use Rattle.build_options.specs.Options.{defaults, effective}
use Rattle.rules.specs.Limits.{any_too_large, any_outside, any_no_scalar, limit_faults}
use Rattle.area_rules.specs.Area.{area_fault, lengths_fault, range_fault, area_faults}
use Rattle.area_rules.specs.Master.{source_fault, edited_master_fault, track_faults}
use Rattle.rules.specs.Property.{numbers_fault, start_fault, property_faults}
use Rattle.rules.specs.Info.{info_faults}
use Rattle.local_rules.specs.Local.{lacks_any, order_faults}
use Rattle.room_rules.specs.Room.{room_faults}
use Rattle.checks.specs.InputVerdict.{given_faults, chunk_faults, verdict}
use Rattle.file_tree.specs.Sound.{sound_bytes, sound_chunk, sound_size, sound_head}
use Rattle.caller_chunks.specs.Caller.{caller_chunk, caller_chunks}
use Rattle.file_tree.specs.Sides.{before, behind, local_bytes, front, back}
use Rattle.file_tree.specs.File.{place, header_of, trailer_of, local_chunk, form_chunks, file_of}
use Rattle.read_rules.specs.Fault.{format_fault}
use Rattle.read_rules.specs.Needed.{needed}

-- chunks, numbers, names and rows
unfoldable pub chunk-definitions : Unit {0}
unfolding flat_map be num same among reserved_names pad chunk counts occupied first_rows rows bytes join each
chunk-definitions = tt

-- texts and comments
unfoldable pub text-definitions : Unit {0}
unfolding part printable passes substitute text_byte text_bytes is_written text_pad comment_of reference_of comment_head as_written written_comment written_comments comment_bytes comt_data has_comt comt comt_chunk
text-definitions = tt

-- PROP
unfoldable pub property-definitions : Unit {0}
unfolding compression_data chnl_data property_chunk property
property-definitions = tt

-- markers
unfoldable pub marker-definitions : Unit {0}
unfolding time_of time_bytes mark_head mark_data mark kind_of custom_of customs markers_of
marker-definitions = tt

-- DIIN
unfoldable pub info-definitions : Unit {0}
unfolding marker-definitions diin_text_data given_text_chunk has_diin diin
info-definitions = tt

-- the sound and its index
unfoldable pub sound-definitions : Unit {0}
unfolding bit bits byte_of bytes_of crc_of frame_bytes plain_bytes dsd_sound unit unit_bytes units sound unit_size sum start rate frte data_size head dst entry joined index dsti sound_bytes sound_chunk sound_size sound_head
sound-definitions = tt

-- options, and the file
unfoldable pub file-definitions : Unit {0}
unfolding defaults effective caller_chunk caller_chunks before behind local_bytes front back place header_of trailer_of local_chunk form_chunks file_of
file-definitions = tt

-- the refusals of a build: limits, names, markers and comments
unfoldable pub limit_definitions : Unit {0}
unfolding below times each_once lengths_wrong too_large outside_pool has_no_scalar no_scalars caller_faults has_no_text marker_faults comment_faults any_too_large any_outside any_no_scalar limit_faults
limit_definitions = tt

-- the others
unfoldable pub rule-definitions : Unit {0}
unfolding area_fault lengths_fault range_fault area_faults source_fault edited_master_fault track_faults numbers_fault start_fault property_faults info_faults lacks_any order_faults room_faults given_faults chunk_faults verdict
rule-definitions = tt

-- reads
unfoldable pub read-definitions : Unit {0}
unfolding window covered first_where touched past_last range positions_for is_lent lent_frames zero_frame frames_with contents_with format_fault needed
read-definitions = tt

-- readers
unfoldable pub reader-definitions : Unit {0}
unfolding cut report within first next walk_in walk read inner counted comments value
reader-definitions = tt

-- all of them
unfoldable pub definitions : Unit {0}
unfolding chunk-definitions text-definitions property-definitions info-definitions sound-definitions file-definitions limit_definitions rule-definitions read-definitions reader-definitions
definitions = tt
