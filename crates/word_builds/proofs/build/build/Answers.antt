-- `build::build` meets its contract: a fault of the words refuses before anything is done. Assumes nothing.
use mathlib.Core.Path.{refl}
use Rattle.refusal.proofs.VerdictLaws.{handed-back}
use Rattle.words.specs.Inputs.{inputs_of_words}
use Rattle.word_builds.proofs.build.build.Goals as goal

pub returns-in_err-words_fault : goal.returns-in_err-words_fault
unfolding inputs_of_words
returns-in_err-words_fault c =
    rw (← c.words_fault.ensures, c.in_err-words_fault.was, handed-back c.from_residual.ensures.1)
    (record { orders = record { property = refl; info = refl; local = refl }; answers = refl; header = refl; trailer = refl })
