-- The proof of `EveryWordExact` (specs/Exact.antt). Assumes nothing.
use mathlib.Core.Path.{◌≡◌, refl, ap, ap₂, subst}
use mathlib.Core.Bool.{Bool, true, false, not}
use mathlib.Core.List.{List, ◌∷◌, map}
use Prim.Native.Nat.{ℕ, zero, suc, ◌+◌, ◌≤◌, ◌<◌, ◌%◌, ◌^◌}
use native.Mathlib.Omega.{arith}
use lib.Dec.{eqb, ltb}
use borrow.Author.Tests.{eqb-true, eqb-false, ltb-false, not-false}
use lib.ListN.{length}
use Rattle.refusal.specs.declared.verdict.Refusal.TheVariants as refused
use Rattle.std.specs.Prelude.{None, Some, cond}
use Rattle.words.specs.Inputs.{halves_of}
use Rattle.refusal.specs.Orders.{property_rank, info_rank, local_rank}
use Rattle.refusal.proofs.VerdictLaws.{or-accepted, after, if-accepted, none_so}
use Rattle.meanings.specs.Property.{layout_of, property_chunk_of}
use Rattle.meanings.specs.Diin.{source_of, info_chunk_of}
use Rattle.meanings.specs.Local.{local_chunk_of}
use Rattle.meanings.specs.Options.{switch_of, replacement_of}
use Rattle.single_words.specs.Word.{word_of, low_bytes, is_set}
use Rattle.words.specs.Border.{word_count, exceeds, field_faults, name_faults, words_fault}
use Rattle.words.specs.Inputs.{area_of, channel_numbers_of, choices_of, inputs_of_words}
use Rattle.words.specs.Exact.{layout_number, switch_number, source_number, words_of, EveryWordExact}

most_of : (w : List ℕ) (i n most : ℕ) → exceeds w i n most ≡ false → (k : ℕ) → k < n → word_of w (i + k) ≤ most
unfolding exceeds
most_of w i n most e k h = ltb-false most (word_of w (i + k)) (none_so (λ j. ltb most (word_of w (i + j))) n e k h)

low_byte : (n : ℕ) → n ≤ 255 → n % 2 ^ 8 ≡ n
low_byte n h = omega arith

low_half : (n : ℕ) → n ≤ 65_535 → n % 2 ^ 16 ≡ n
low_half n h = omega arith

-- A NUMBER IS TOLD BACK by f, if each of 0 to the last is; there are five at most
abbrev TellsBack : (ℕ → ℕ) → ℕ → Type 0
TellsBack f last = (n : ℕ) → n ≤ last → f n ≡ n

to-two : (f : ℕ → ℕ) → f 0 ≡ 0 → f 1 ≡ 1 → f 2 ≡ 2 → TellsBack f 2
to-two f f0 f1 f2 zero h = f0
to-two f f0 f1 f2 (suc zero) h = f1
to-two f f0 f1 f2 (suc (suc zero)) h = f2
to-two f f0 f1 f2 (suc (suc (suc n))) h = absurd (omega arith)

next : (f : ℕ → ℕ) (last : ℕ) → TellsBack f last → f (suc last) ≡ suc last → TellsBack f (suc last)
next f last back e n h = by (eqb n (suc last)) refl
  where
    by : (b : Bool) → eqb n (suc last) ≡ b → f n ≡ n
    by true is = rw (eqb-true n (suc last) is) e
    by false is = back n (omega (arith, eqb-false n (suc last) is, h))

-- so are the names of n words from word i on
names_back : (f : ℕ → ℕ) (last : ℕ) → last ≤ 255 → TellsBack f last → (w : List ℕ) (i n : ℕ) → ((k : ℕ) → k < n → word_of w (i + k) ≤ last)
    → map f (low_bytes w i n) ≡ words_of w i n
names_back f last small back w i zero h = refl
names_back f last small back w i (suc n) h =
    let here : word_of w i ≤ last = subst (λ (j : ℕ). word_of w j ≤ last) (omega arith) (h 0 (omega arith)) in
    let head : f (word_of w i % 2 ^ 8) ≡ word_of w i = rw (low_byte (word_of w i) (omega (arith, here, small))) (back (word_of w i) here) in
    ap₂ (λ (a : ℕ) (l : List ℕ). a ∷ l) head
    (names_back f last small back w (suc i) n (λ k l. subst (λ (j : ℕ). word_of w j ≤ last) (omega arith) (h (suc k) (omega arith))))

layouts : TellsBack (λ n. layout_number (layout_of n)) 3
layouts = next _ 2 (to-two _ refl refl refl) refl

switches : TellsBack (λ n. switch_number (switch_of n)) 2
switches = to-two _ refl refl refl

sources : TellsBack (λ n. source_number (source_of n)) 2
sources = to-two _ refl refl refl

properties : TellsBack (λ n. property_rank (property_chunk_of n)) 4
properties = next _ 3 (next _ 2 (to-two _ refl refl refl) refl) refl

infos : TellsBack (λ n. info_rank (info_chunk_of n)) 3
infos = next _ 2 (to-two _ refl refl refl) refl

locals : TellsBack (λ n. local_rank (local_chunk_of n)) 4
locals = next _ 3 (next _ 2 (to-two _ refl refl refl) refl) refl

pub every-word-exact : EveryWordExact
unfolding words_fault field_faults name_faults inputs_of_words area_of choices_of channel_numbers_of
every-word-exact w pool raw tracks markers comments callers lengths ok =
    let both = or-accepted (field_faults w) (name_faults w) ok in
    let h2 = after (not (eqb (length w) word_count)) refused.OutsidePool both.0 in
    let h7 = after (exceeds w 2 1 255) refused.Channels h2.1 in
    let h8 = after (exceeds w 3 1 3) refused.ChannelsOfLayout h7.1 in
    let h13 = after (exceeds w 21 1 65_535) refused.NoSourceTrack h8.1 in
    let h24 = after (exceeds w 47 1 255) refused.Replacement h13.1 in
    let h26 = if-accepted (exceeds w 8 6 65_535) refused.ChannelNumberTooLarge h24.1 in
    let h28 = after (exceeds w 52 5 4) refused.PropertyOrder both.1 in
    let h30 = after (exceeds w 57 4 3) refused.InfoOrder h28.1 in
    let h30' = after (exceeds w 32 2 2) refused.InfoOrder h30.1 in
    let h37 = if-accepted (exceeds w 61 5 4) refused.LocalOrderRepeats h30'.1 in
    let small : (k : ℕ) → k < 6 → word_of w (8 + k) % 2 ^ 16 ≡ word_of w (8 + k) = λ k h. low_half (word_of w (8 + k)) (most_of w 8 6 65_535 h26 k h) in
    let halves : halves_of w ≡ words_of w 8 6 = rw (small 0 (omega arith), small 1 (omega arith), small 2 (omega arith), small 3 (omega arith), small 4 (omega arith), small 5 (omega arith)) in
    let layout = most_of w 3 1 3 h8.0 0 (omega arith) in
    let source = most_of w 32 2 2 h30'.0 1 (omega arith) in
    record {
      many = eqb-true (length w) word_count (not-false (eqb (length w) word_count) h2.0);
      channels = low_byte (word_of w 2) (most_of w 2 1 255 h7.0 0 (omega arith));
      layout = rw (low_byte (word_of w 3) (omega (arith, layout))) (layouts (word_of w 3) layout);
      halves = halves;
      numbers = ap (λ (l : List ℕ). cond (is_set w 6) (Some (record { count = word_of w 7; numbers = l })) None) halves;
      source_track = low_half (word_of w 21) (most_of w 21 1 65_535 h13.0 0 (omega arith));
      artist_title = switches (word_of w 32) (most_of w 32 2 2 h30'.0 0 (omega arith));
      artist_title_source = rw (low_byte (word_of w 33) (omega (arith, source))) (sources (word_of w 33) source);
      replacement = ap (replacement_of (is_set w 46)) (low_byte (word_of w 47) (most_of w 47 1 255 h24.0 0 (omega arith)));
      property_order_lem = names_back _ 4 (omega arith) properties w 52 5 (most_of w 52 5 4 h28.0);
      info_order_lem = names_back _ 3 (omega arith) infos w 57 4 (most_of w 57 4 3 h30.0);
      local_order_lem = names_back _ 4 (omega arith) locals w 61 5 (most_of w 61 5 4 h37);
    }
