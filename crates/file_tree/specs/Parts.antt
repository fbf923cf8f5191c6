-- What the local chunks of a file are made of. Assumes nothing.
use Rattle.std.specs.Prelude.{Bool, ◌&&◌, List, ℕ}
use Rattle.chunk.specs.Append.{moved}
use Rattle.chunk_names.specs.declared.PropertyChunk.{PropertyChunk}
use Rattle.chunk_names.specs.declared.InfoChunk.{InfoChunk}
use Rattle.dst_index.specs.Index.{shift_of, index}
use Rattle.prop.specs.declared.property.Properties.{Properties}
use Rattle.master_info.specs.declared.diin.Info.{Info}
use Rattle.build_options.specs.declared.area.Area.{Area}
use Rattle.build_options.specs.declared.options.Options.{Options}
use Rattle.build_options.specs.declared.options.Settings.{Settings}
use Rattle.build_options.specs.Area.{is_dst}
use Rattle.build_options.specs.Options.{effective, info_of}
use Rattle.build_options.specs.Inputs.{Inputs}

pub record Parts : Type 0 where
  pub area : Area
  pub options : Options
  pub property_order : List PropertyChunk
  pub info_order : List InfoChunk
  pub pool : List ℕ
  pub raw : List ℕ
  pub tracks : List ℕ
  pub markers : List ℕ
  pub comments : List ℕ
  pub lengths : List ℕ

-- of all that a build is given
abbrev pub parts : Inputs → Parts
parts x = record {
  area = x.area;
  options = x.options;
  property_order = x.property_order;
  info_order = x.info_order;
  pool = x.pool;
  raw = x.raw;
  tracks = x.tracks;
  markers = x.markers;
  comments = x.comments;
  lengths = x.lengths;
}

-- what PROP tells
abbrev pub properties_of : Area → Options → Settings → Properties
properties_of area o s = record {
  sound = area.sound;
  layout = area.layout;
  channels = area.channels;
  numbers = o.channel_numbers;
  start = s.start;
  loudspeaker_configuration = o.loudspeaker_configuration;
  unspecified_loudspeaker_configuration = o.unspecified_loudspeaker_configuration;
  d1 = o.d1;
}

-- the settings of PROP and of DIIN
abbrev pub properties : Parts → Properties
properties p = properties_of p.area p.options (effective p.options)

abbrev pub info : Parts → Info
info p = info_of p.area p.options (effective p.options)

-- whether there is a DSTI (01: "DST only, under its switch")
abbrev pub has_index : Parts → Bool
has_index p = is_dst p.area.sound && p.options.dst_index

-- the offset in the first entry of the index, where the first sound byte is at `base`
abbrev pub first_offset : Parts → ℕ → ℕ
first_offset p base = moved base (shift_of p.options.dst_index_offset)

-- the entries of the index
abbrev pub index_of : Parts → ℕ → List ℕ
index_of p base = index p.options.dst_crc (first_offset p base) p.lengths
