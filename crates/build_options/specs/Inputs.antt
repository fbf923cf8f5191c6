-- All that a build is given. Assumes nothing.
use Rattle.std.specs.Prelude.{ℕ, List}
use Rattle.chunk_names.specs.declared.PropertyChunk.{PropertyChunk}
use Rattle.chunk_names.specs.declared.InfoChunk.{InfoChunk}
use Rattle.chunk_names.specs.declared.LocalChunk.{LocalChunk}
use Rattle.build_options.specs.declared.area.Area.{Area}
use Rattle.build_options.specs.declared.options.Options.{Options}
use Rattle.build_options.specs.declared.inputs.Inputs as declared

pub record Inputs : Type 0 where
  pub area : Area
  pub options : Options
  pub property_order : List PropertyChunk
  pub info_order : List InfoChunk
  pub local_order : List LocalChunk
  pub local_count : ℕ
  -- the text pool and the byte pool
  pub pool : List ℕ
  pub raw : List ℕ
  -- rows of words
  pub tracks : List ℕ
  pub markers : List ℕ
  pub comments : List ℕ
  pub callers : List ℕ
  -- of the DST frames
  pub lengths : List ℕ

-- what a build is told and lent, the slices as lists
abbrev pub inputs_of : declared.Inputs → Inputs
inputs_of x = record {
  area = x.area;
  options = x.options;
  property_order = x.property_order;
  info_order = x.info_order;
  local_order = x.local_order;
  local_count = x.local_count;
  pool = x.lent.pools.text.now;
  raw = x.lent.pools.bytes.now;
  tracks = x.lent.tracks.now;
  markers = x.lent.markers.now;
  comments = x.lent.comments.now;
  callers = x.lent.callers.now;
  lengths = x.lent.lengths.now;
}

-- the same with other markers
abbrev pub with_markers : List ℕ → Inputs → Inputs
with_markers markers x = record {
  area = x.area;
  options = x.options;
  property_order = x.property_order;
  info_order = x.info_order;
  local_order = x.local_order;
  local_count = x.local_count;
  pool = x.pool;
  raw = x.raw;
  tracks = x.tracks;
  markers = markers;
  comments = x.comments;
  callers = x.callers;
  lengths = x.lengths;
}
