-- What the numbers of the sound mean. Assumes nothing.
use Rattle.std.specs.Prelude.{Bool, cond}
use Rattle.dst_index.specs.declared.index.DstIndexOffset.{DstIndexOffset}
use Rattle.dst_index.specs.declared.index.DstIndexOffset.TheVariants.{ChunkHeader, FrameData}

-- an offset of the index leads to the frame's data, or to its chunk's header
abbrev pub offset_of : Bool → DstIndexOffset
offset_of frameData = cond frameData FrameData ChunkHeader
