-- `Written::add` meets its contract. Assumes nothing.
use mathlib.Core.Path.{◌≡◌, sym, ◌∙◌}
use mathlib.Core.Bool.{true, false}
use borrow.Author.Rules.{rules}
use Rattle.tree.specs.Tree.{bytes, each}
use Rattle.chunk.proofs.AppendLaws.{◌then◌, none}
use Rattle.tree.proofs.TreeLaws.{bytes-each-one, bytes-each-append}
use Rattle.tracks.specs.Track.{has_frames}
use Rattle.track_markers.specs.Pass.{stop_before, added_markers}
use Rattle.track_markers.proofs.ProgramLaws.{left_before}
use Rattle.track_markers.proofs.program.Written.add.Goals as goal

pub returns-then-not-has_frames-clause-appended : goal.returns-then-not-has_frames-clause-appended
unfolding added_markers bytes each
returns-then-not-has_frames-clause-appended c =
    let empty : has_frames c.args.s ≡ false = sym c.has_frames.ensures ∙ c.if-not-has_frames.true in
    rw empty (none (search rules) (search rules))

pub returns-clause-appended : goal.returns-clause-appended
unfolding added_markers
returns-clause-appended c =
    let some : has_frames c.args.s ≡ true = sym c.has_frames.ensures ∙ c.if-not-has_frames.false in
    let stop : c.filter.result ≡ stop_before c.args.self.stop c.args.s.start =
    left_before _ c.args.s.start (λ stop b called. search rules) c.args.self.stop c.filter.result c.filter.ensures in
    rw (some, bytes-each-append, bytes-each-one, ← stop) (c.close-c.ensures then (rw c.track_start.ensures at c.mark.ensures))
