-- WINDOWS THAT MEET AT A MINUTE split the dated notes between them: none falls in both, and none is lost. Assumes nothing.
use Rattle.std.specs.Prelude.{◌≡◌, Bool, false, cond, ◌&&◌, ◌||◌, ℕ, ◌+◌, ◌<◌, Ok}
use Rattle.refusal.specs.Below.{how_many}
use Rattle.calendar.specs.declared.date.Stamp.{Stamp}
use Rattle.calendar.specs.Order.{earlier}
use Rattle.calendar.specs.Window.{is_inside, falls_in}

-- THE STATEMENT
pub record WindowsThatMeet : Type 0 where
  -- two windows, the one from where the other ends: never both
  pub not-both : (start middle end note : Stamp) (a b : Bool) → falls_in start middle note ≡ Ok a → falls_in middle end note ≡ Ok b → (a && b) ≡ false
  -- and one of the two is told just where the window over both is
  pub none_lost : (start middle end note : Stamp) (a b : Bool) → earlier middle start ≡ false → earlier end middle ≡ false
      → falls_in start middle note ≡ Ok a → falls_in middle end note ≡ Ok b → falls_in start end note ≡ Ok (a || b)
  -- a row of n windows: a note that lies in the whole lies in one of them, any other in none
  pub in_one : (cut : ℕ → Stamp) (n : ℕ) → ((k : ℕ) → k < n → earlier (cut (k + 1)) (cut k) ≡ false)
      → (note : Stamp) → how_many (λ k. is_inside (cut k) (cut (k + 1)) note) n ≡ cond (is_inside (cut 0) (cut n) note) 1 0
