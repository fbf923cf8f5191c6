-- A chunk whose size is filled in last: its name; its data, by any appends of a cursor of their own, in the part of the buffer behind the
-- size; then the size, which is where that cursor stopped, and the pad. The bytes are those of a chunk that is appended from front to
-- back. Assumes nothing.
use mathlib.Core.Path.{◌≡◌, refl, sym, ap, ap₂, ◌∙◌}
use mathlib.Core.List.{List, ◌++◌}
use Prim.Native.Nat.{ℕ, ◌+◌, ◌-◌, ◌%◌, ◌^◌, ◌<◌, min}
use native.Mathlib.Nat.{add-zero}
use native.Mathlib.Omega.{arith}
use borrow.Rule.Slice.PartMut.{mid_of, put_mid}
use lib.ListN.{length, take}
use Rattle.chunk.specs.Append.{overlay, moved, Appended}
use Rattle.chunk.specs.Number.{be}
use Rattle.chunk_names.specs.Name.{Name}
use Rattle.chunk.specs.Chunk.{pad, chunk}
use Rattle.chunk.specs.Close.{Closed}
use Rattle.chunk.proofs.NumberLaws.{length-be}
use Rattle.chunk.proofs.AppendLaws.{moved-moved, ◌then◌, kept, measured, overlay-min, overlay-moved, length-overlay}
use Rattle.chunk.proofs.TailLaws.{overlay-apart, overlay_tail, tail_lent, tail_back}
use Rattle.chunk.proofs.ChunkLaws.{length-pad, chunked}

-- the steps of `Cursor::close`: the size at its place, the data passed, the pad behind them
pub closing : {xs ys ws : List ℕ} {a b c d n : ℕ} → Appended xs a (be 8 n) ys b → c ≡ moved b n → Appended ys c (pad n) ws d → Closed xs a n ws d
closing {xs} {ys} {ws} {a} {b} {c} {d} {n} size skip end =
    let eight = length-be 8 n in
    let one = length-pad n in
    let c-is : c ≡ moved a (8 + n) = omega (arith, size.place, skip) in
    record {
      short = size.short;
      place = omega (arith, c-is, end.place);
      buffer =
          end.buffer
          ∙ ap (λ (k : ℕ). overlay ys k (pad n)) c-is
          ∙ overlay-moved ys a (8 + n) (pad n) (omega (arith, end.short))
          ∙ ap (λ (l : List ℕ). overlay l (a + (8 + n)) (pad n)) size.buffer;
    }

-- data that a cursor from 0 on appended to the part of the buffer behind the eight bytes of a size
data_behind : (xs : List ℕ) (a : ℕ) {part content : List ℕ} {p o n : ℕ} → p ≡ min (a + 8) (length xs) → o ≡ 0
    → Appended (mid_of p (length xs - p) xs) o content part n → put_mid p (length xs - p) xs part ≡ overlay xs (a + 8) content
data_behind xs a {part} {content} {p} from front inside =
    tail_back p xs part
    ∙ ap (λ (l : List ℕ). take p xs ++ l) (inside.buffer ∙ ap₂ (λ (l : List ℕ) (k : ℕ). overlay l k content) (tail_lent p xs) front)
    ∙ overlay_tail p 0 xs content
    ∙ ap (λ (k : ℕ). overlay xs k content) (add-zero p ∙ from)
    ∙ overlay-min xs (a + 8) content

-- From the buffer xs, the size n, the data and the pad were appended one after the other, from the place a of the size on.
record InTurn (xs : List ℕ) (a n : ℕ) (content ws : List ℕ) (d : ℕ) : Type 0 where
  size : Appended xs a (be 8 n) (overlay xs a (be 8 n)) (moved a 8)
  inside : Appended (overlay xs a (be 8 n)) (moved a 8) content (overlay (overlay xs a (be 8 n)) (moved a 8) content) (moved (moved a 8) (length content))
  end : Appended (overlay (overlay xs a (be 8 n)) (moved a 8) content) (moved (moved a 8) (length content)) (pad n) ws d

-- Closed behind the data, or appended in turn: the same bytes and the same cursor.
in_turn : {xs part ws content : List ℕ} {a p o n d : ℕ} → length xs < 2 ^ 63 → p ≡ min (a + 8) (length xs) → o ≡ 0
    → Appended (mid_of p (length xs - p) xs) o content part n → Closed (put_mid p (length xs - p) xs part) a n ws d → InTurn xs a n content ws d
in_turn {xs} {part} {ws} {content} {a} {p} {o} {n} {d} short from front data' closed =
    let eight = length-be 8 n in
    let one = length-pad n in
    let sized = overlay xs a (be 8 n) in
    let filled = overlay sized (moved a 8) content in
    let long = length-overlay xs a (be 8 n) in
    let Long-Filled = length-overlay sized (moved a 8) content in
    let n-is : n ≡ min (0 + length content) (2 ^ 64 - 1) = data'.place ∙ ap (λ (k : ℕ). moved k (length content)) front in
    let behind : moved a (8 + n) ≡ moved (moved a 8) (length content) = omega (arith, n-is) in
    let both : overlay (put_mid p (length xs - p) xs part) a (be 8 n) ≡ filled =
    ap (λ (l : List ℕ). overlay l a (be 8 n)) (data_behind xs a from front data')
    ∙ overlay-apart xs a (be 8 n) (a + 8) content (omega (arith, eight))
    ∙ sym (overlay-moved sized a 8 content (omega (arith, short, long))) in
    record {
      size = record { short = short; place = rw eight; buffer = refl };
      inside = record { short = omega (arith, short, long); place = refl; buffer = refl };
      end = record {
        short = omega (arith, short, long, Long-Filled);
        place = closed.place ∙ sym (moved-moved a (8 + n) (n % 2)) ∙ ap₂ (λ (x y : ℕ). moved x y) behind (sym one);
        buffer =
            closed.buffer
            ∙ ap (λ (l : List ℕ). overlay l (a + (8 + n)) (pad n)) both
            ∙ sym (overlay-moved filled a (8 + n) (pad n) (omega (arith, short, long, Long-Filled)))
            ∙ ap (λ (k : ℕ). overlay filled k (pad n)) behind;
      };
    }

-- A CHUNK WHOSE SIZE IS FILLED IN LAST, with whatever size its data's cursor tells.
pub size-last : (name : Name) {xs ys part ws content : List ℕ} {a b p o n d : ℕ} → Appended xs a name ys b → p ≡ min (b + 8) (length ys) → o ≡ 0
    → Appended (mid_of p (length ys - p) ys) o content part n → Closed (put_mid p (length ys - p) ys part) b n ws d
    → Appended xs a (name ++ be 8 n ++ content ++ pad n) ws d
size-last name head from front data' closed =
    let turn = in_turn (rw (kept head) head.short) from front data' closed in
    head then turn.size then turn.inside then turn.end

-- It is a chunk, where a cursor can tell its size.
pub chunk-size-last : (name : Name) {xs ys part ws content : List ℕ} {a b p o n d : ℕ} → length content < 2 ^ 64 → Appended xs a name ys b
    → p ≡ min (b + 8) (length ys) → o ≡ 0 → Appended (mid_of p (length ys - p) ys) o content part n → Closed (put_mid p (length ys - p) ys part) b n ws d
    → Appended xs a (chunk name content) ws d
chunk-size-last name {content = content} {n = n} short head from front data' closed =
    let turn = in_turn (rw (kept head) head.short) from front data' closed in
    chunked name n (measured (rw front at data') short) (head then turn.size) turn.inside turn.end
