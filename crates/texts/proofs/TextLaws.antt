-- The laws of text bytes. Assumes nothing.
use mathlib.Core.Path.{◌≡◌, sym, ◌∙◌}
use mathlib.Core.Bool.{Bool, true, false, not, cond, true≢false, and-false}
use mathlib.Core.List.{List, [], ◌∷◌}
use Prim.Native.Nat.{ℕ, ◌≤◌, ◌<◌}
use native.Mathlib.Decide.{dec_le}
use native.Mathlib.Omega.{arith}
use lib.ListN.{length}
use borrow.Author.Tests.{lt-leb, not-true, not-false}
use Rattle.chunk.proofs.ListLaws.{flat_map-bound}
use Rattle.texts.specs.Extent.{part}
use Rattle.texts.specs.Text.{printable, latin1, passes, substitute, text_byte, text_bytes, is_written}
use Rattle.texts.specs.declared.text.TextOptions.{TextOptions}
use Rattle.texts.specs.declared.text.TextRule.{TextRule}
use Rattle.texts.specs.declared.text.TextRule.TheVariants.{Replace, Remove, D2}
use Rattle.texts.specs.declared.extent.Extent.{Extent}
use Rattle.texts.proofs.ExtentLaws.{length_part}

-- a value above all bytes does not pass
above : (rule : TextRule) (c : ℕ) → 255 < c → passes rule c ≡ false
unfolding passes latin1 printable
above (Replace b) c h = rw (lt-leb c 0x7E (omega arith), and-false)
above Remove c h = rw (lt-leb c 0x7E (omega arith), and-false)
above D2 c h = rw (lt-leb c 0x7E (omega arith), lt-leb c 0xFF h) (simp and-false)

-- what passes is a byte
pub passes_byte : (rule : TextRule) (c : ℕ) → passes rule c ≡ true → c < 256
passes_byte rule c h = go (dec_le c 255)
  where
    go : Dec (c ≤ 255) → c < 256
    go (yes l) = omega arith
    go (no l) = absurd (true≢false (sym h ∙ above rule c (omega arith)))

-- a value is at most one byte
text_byte_short : (rule : TextRule) (c : ℕ) → length (text_byte rule c) ≤ 1
unfolding text_byte substitute
text_byte_short rule c = go (passes rule c)
  where
    stands : (rule : TextRule) → length (substitute rule) ≤ 1
    stands (Replace b) = omega arith
    stands Remove = omega arith
    stands D2 = omega arith

    go : (b : Bool) → length (cond b (c ∷ []) (substitute rule)) ≤ 1
    go true = omega arith
    go false = stands rule

-- a text has at most as many bytes as values
pub text-short : (rule : TextRule) (text : List ℕ) → length (text_bytes rule text) ≤ length text
unfolding text_bytes
text-short rule text = omega (arith, flat_map-bound (text_byte rule) 1 (text_byte_short rule) text)

pub extent_short : (rule : TextRule) (pool : List ℕ) (e : Extent) → length (text_bytes rule (part pool e)) ≤ e.length
extent_short rule pool e = omega (arith, text-short rule (part pool e), length_part pool e)

-- what `TextOptions::writes` says of a count that was measured
module _ (o : TextOptions) {n m : ℕ} {r : Bool} (count : n ≡ m) (writes : r ≡ is_written o n) where
  pub left_out : not r ≡ true → is_written o m ≡ false
  left_out h = rw (← count) (sym writes ∙ not-true r h)

  pub written : not r ≡ false → is_written o m ≡ true
  written h = rw (← count) (sym writes ∙ not-false r h)
