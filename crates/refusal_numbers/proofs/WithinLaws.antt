-- Numbers of refusals, through the ways in which checks are joined. Assumes nothing.
use mathlib.Core.Path.{◌≡◌, sym}
use mathlib.Core.Bool.{Bool, true, false}
use Prim.Native.Nat.{ℕ, zero, suc, ◌≤◌}
use lib.Dec.{leb}
use borrow.Author.Tests.{leb-true}
use Rattle.std.specs.Prelude.{Ok, Err}
use Rattle.refusal.specs.Verdict.{Verdict, refusal_number, or_else, refuse_if, when}
use Rattle.refusal.specs.Below.{below, first_refused}
use Rattle.refusal.specs.declared.verdict.Refusal.{Refusal}
use Rattle.refusal.proofs.VerdictLaws.{not-accepted}
use Rattle.refusal_numbers.specs.Numbers.{Within}

module _ {low high : ℕ} where
  pub within_none : Within low high (Ok tt)
  within_none = record { least = λ r e. not-accepted (sym e); most = λ r e. not-accepted (sym e) }

  pub within-one : (r : Refusal) → low ≤ refusal_number r → refusal_number r ≤ high → Within low high (Err r)
  within-one r l m = record {
    least = λ s e. let z : r ≡ s = cc in rw (← z) l;
    most = λ s e. let z : r ≡ s = cc in rw (← z) m;
  }

  pub within_if : (t : Bool) (r : Refusal) → leb low (refusal_number r) ≡ true → leb (refusal_number r) high ≡ true → Within low high (refuse_if t r)
  within_if true r l m = within-one r (leb-true low (refusal_number r) l) (leb-true (refusal_number r) high m)
  within_if false r l m = within_none

  pub within-or : (v w : Verdict) → Within low high v → Within low high w → Within low high (or_else v w)
  within-or (Ok tt) w a b = b
  within-or (Err r) w a b = a

  pub within-when : (t : Bool) {v : Verdict} → Within low high v → Within low high (when t v)
  within-when true a = a
  within-when false a = within_none

  pub within_first : (f : ℕ → Verdict) → ((k : ℕ) → Within low high (f k)) → (n : ℕ) → Within low high (first_refused f n)
  unfolding below
  within_first f h zero = within_none
  within_first f h (suc n) = within-or (first_refused f n) (f n) (within_first f h n) (h n)
