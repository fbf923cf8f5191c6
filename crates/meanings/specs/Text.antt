-- What the numbers of texts mean. Assumes nothing.
use Rattle.diin_texts.specs.DiinText.{Text}
use Rattle.std.specs.Prelude.{None, Some, ℕ, Bool, cond, eqb}
use Rattle.texts.specs.declared.text.TextRule.{TextRule}
use Rattle.texts.specs.declared.text.TextRule.TheVariants.{Replace, Remove, D2}
use Rattle.texts.specs.declared.text.TextOptions.{TextOptions}

-- 0 replaces by a byte, 1 removes, any other is D2
abbrev pub rule_of : ℕ → ℕ → TextRule
rule_of number replacement = cond (eqb number 0) (Replace replacement) (cond (eqb number 1) Remove D2)

abbrev pub options_of : ℕ → ℕ → Bool → Bool → TextOptions
options_of number replacement emptyText padCounted = record { rule = rule_of number replacement; empty_text = emptyText; text_pad_counted = padCounted }

-- a text, if it is given
abbrev pub text_of : Bool → ℕ → ℕ → Text
text_of given start length = cond given (Some (record { start = start; length = length })) None
