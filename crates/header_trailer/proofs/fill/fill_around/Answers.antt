-- `fill::fill_around` meets its contract. Assumes nothing.
use Rattle.chunk.proofs.AppendLaws.{◌then◌}
use Rattle.header_trailer.proofs.FillLaws.{filled}
use Rattle.header_trailer.proofs.fill.fill_around.Goals as goal

pub returns : goal.returns
returns c =
    let sound = c.sound_size-sound.ensures in
    filled _ _ _ sound.dsd_fits sound.value c.saturating_add.ensures c.new-start.ensures (c.chunk_head-c.ensures then c.front_sized.ensures) c.back.ensures
