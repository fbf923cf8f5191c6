-- `build::lay_out` meets its contract. Assumes nothing.
use native.Mathlib.Omega.{arith}
use Rattle.refusal.proofs.VerdictLaws.{handed-back}
use Rattle.assemble.proofs.BuildLaws.{front_fits, back_fits, header-long, trailer-long, header-filled, trailer-filled, sound-long, no_room, built}
use Rattle.assemble.proofs.build.lay_out.Goals as goal

pub overflow_add-base : goal.overflow_add-base
overflow_add-base c = omega (arith, front_fits _ c.requires c.measure-m.result c.measure-m.ensures)

pub returns-in_err-room_faults : goal.returns-in_err-room_faults
returns-in_err-room_faults c =
    rw (handed-back c.from_residual.ensures.1)
    (no_room _ c.measure-m.ensures.orders _ _ (header-long _ c.requires c.measure-m.result c.measure-m.ensures) (trailer-long _ c.requires c.measure-m.result c.measure-m.ensures)
    c.room_faults.ensures c.in_err-room_faults.was)

pub overflow_add-before : goal.overflow_add-before
overflow_add-before c = omega (arith, front_fits _ c.requires c.measure-m.result c.measure-m.ensures, back_fits _ c.requires c.measure-m.result c.measure-m.ensures)

pub returns : goal.returns
returns c = let long = sound-long _ c.requires c.measure-m.ensures.orders c.fill_around-sound.ensures.sound in
    built _ c.measure-m.ensures.orders _ _ (header-long _ c.requires c.measure-m.result c.measure-m.ensures) (trailer-long _ c.requires c.measure-m.result c.measure-m.ensures) c.room_faults.ensures c.in_ok-room_faults.was long
    (header-filled _ c.requires c.measure-m.result c.measure-m.ensures long c.fill_around-sound.ensures.both) (trailer-filled _ c.requires c.measure-m.result c.measure-m.ensures c.fill_around-sound.ensures.both)
