-- THE FILE OF AN ACCEPTED BUILD: header, sound and trailer are its bytes, and FRM8's size is 01's. Assumes nothing.
use mathlib.Core.Path.{◌≡◌}
use mathlib.Core.List.{List, ◌++◌}
use Prim.Native.Nat.{◌+◌}
use native.Mathlib.Omega.{arith}
use lib.ListN.{length}
use Rattle.tree.specs.Tree.{bytes, join, each}
use Rattle.dst.specs.Frame.{Frame}
use Rattle.std.specs.Prelude.{Ok}
use Rattle.build_options.specs.Inputs.{Inputs}
use Rattle.checks.specs.InputVerdict.{verdict}
use Rattle.file_tree.specs.Parts.{parts}
use Rattle.file_tree.specs.Sound.{Fits, sound_bytes}
use Rattle.caller_chunks.specs.Caller.{caller_chunks}
use Rattle.file_tree.specs.File.{given, place, form_size, header_of, trailer_of, local_chunk, file_of, Ordered}
use Rattle.file_tree.proofs.FileLaws.{file-bytes, frm8_size}
use Rattle.accepted_file.proofs.SizeLaws.{lengths-few, sound-once, sound-low}

module _ (x : Inputs) (ok : verdict x ≡ Ok tt) (sized : Ordered x) (fs : List Frame) (fits : Fits x.area.sound x.area x.lengths fs) where
  pub accepted-file : header_of x ++ sound_bytes x.area.sound x.options.dst_crc fs ++ trailer_of x ≡ bytes (file_of x fs)
  accepted-file = file-bytes x fs fits (sound-once x ok sized) (omega (arith, lengths-few x ok sized)) (omega (arith, sound-low x ok sized))

  -- 20 plus what the chunks after FVER occupy
  pub accepted-size : form_size x ≡ 20 + length (bytes (join (each (local_chunk (parts x) (place x) fs) (given x)) (caller_chunks x.raw x.callers)))
  accepted-size = frm8_size x fs fits (sound-once x ok sized) (omega (arith, lengths-few x ok sized)) (omega (arith, sound-low x ok sized))
