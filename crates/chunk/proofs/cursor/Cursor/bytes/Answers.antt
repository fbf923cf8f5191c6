-- `Cursor::bytes` meets its contract, where all bytes fit, where some do, and where none does. Assumes nothing.
use Rattle.std.proofs.Common.{◌∙◌, sym, rules, arith, length, ◌-◌}
use Rattle.std.proofs.Math.Seq.{take-length}
use Rattle.chunk.proofs.AppendLaws.{copied, overlay-out}
use Rattle.chunk.proofs.cursor.Cursor.bytes.Goals as goal
use Rattle.chunk.proofs.cursor.Cursor.bytes.Goals.{then-src-room, else-src-room+then-room-gt0, else-src-room+else-room-gt0}

pub returns : goal.returns
returns c = elim c.if-src-room.branch [
  | then-src-room w ↦
      copied (length c.args.src.now) _ {p = c.min-at.result} (search rules) (search rules) (omega arith) (omega arith)
      (w.copy_from_slice.ensures.after ∙ sym (take-length c.args.src.now)) w.out-is c.skip.ensures
  | else-src-room+then-room-gt0 w ↦
      copied (length c.args.out.now - c.min-at.result) _ {p = c.min-at.result} (search rules) (search rules) (omega arith) (omega arith)
      w.copy_from_slice-then-room-gt0.ensures.after w.out-is c.skip.ensures
  | else-src-room+else-room-gt0 w ↦
      record {
        short = search rules;
        place = c.skip.ensures;
        buffer = w.out-is ∙ sym (overlay-out c.args.out.now c.args.self.at c.args.src.now (omega arith));
      }
]
