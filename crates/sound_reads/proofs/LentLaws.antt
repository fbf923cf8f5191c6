-- The laws of specs/Lent.antt. Assumes nothing.
use mathlib.Core.Path.{◌≡◌, refl, sym, ap, ◌∙◌}
use mathlib.Core.Bool.{true, ◌&&◌, and_assoc}
use mathlib.Core.List.{List, [], ◌∷◌, ◌++◌, map, flat_map, map-append}
use Prim.Native.Nat.{ℕ, zero, suc, ◌+◌, ◌*◌, ◌-◌, ◌^◌, ◌≤◌, ◌<◌, min}
use native.Mathlib.Nat.{mul-zero, mul-suc, add_comm, not-suc-le-zero, le_of_eq, le_of_suc-le-suc}
use native.Mathlib.Omega.{arith}
use lib.Dec.{eqb}
use lib.ListN.{length, take, drop, get_or, length-append, length-map, length-replicate, length-drop, take-append-drop}
use lib.Seq.{slice, take-take, take-nil, drop-drop, length-take-le, length-slice, take_at, drop_at}
use borrow.Author.Tests.{eqb-true}
use Rattle.std.specs.Cmp.Lexicographic.{pointwise}
use Rattle.chunk_names.specs.Name.{same}
use Rattle.sound_reads.specs.declared.place.Positions.{Positions}
use Rattle.dst.specs.Frame.{Frame}
use Rattle.dst.specs.Unit.{lengths}
use Rattle.dst.specs.Start.{sum}
use Rattle.sound_reads.specs.Positions.{between}
use Rattle.sound_reads.specs.Lent.{is_lent, lent_frames, zero_frame, frames_with, codes, contents, Even}
use Rattle.window.proofs.TestLaws.{and_left, and_right, stopped}
use Rattle.sound_reads.proofs.SameLaws.{same_pointwise, same_true}

-- the test as the code has it: a slice's length is below where a sum stops
pub lent_tested : (n : ℕ) (needed lengths frames contents : List ℕ) → length frames < 2 ^ 64 - 1
    → is_lent n needed lengths frames contents
    ≡ (pointwise eqb lengths needed && eqb (min (sum needed) (2 ^ 64 - 1)) (length frames) && eqb (n * length needed) (length contents))
unfolding is_lent
lent_tested n needed lengths frames contents h =
    rw (← stopped (sum needed) (length frames) h, same_pointwise lengths needed)
    (sym (and_assoc (pointwise eqb lengths needed) (eqb (min (sum needed) (2 ^ 64 - 1)) (length frames)) (eqb (n * length needed) (length contents))))

-- what is lent has the lengths that it should
pub lent-lengths : (n : ℕ) (needed lengths frames contents : List ℕ) → is_lent n needed lengths frames contents ≡ true
    → (lengths ≡ needed) × ((sum needed ≡ length frames) × (n * length needed ≡ length contents))
unfolding is_lent
lent-lengths n needed lengths frames contents h =
    let s = same lengths needed in
    let f = eqb (sum needed) (length frames) in
    let e = eqb (n * length needed) (length contents) in
    let r = and_right s (f && e) h in (
      same_true lengths needed (and_left s (f && e) h),
      (eqb-true (sum needed) (length frames) (and_left f e r), eqb-true (n * length needed) (length contents) (and_right f e r)),
    )

-- the codes of what is lent have these lengths
pub lent-codes : (n : ℕ) (ls frames contents : List ℕ) → sum ls ≤ length frames
    → lengths (lent_frames n ls frames contents) ≡ ls
unfolding lent_frames sum
lent-codes n [] frames contents h = refl
lent-codes n (l ∷ ls) frames contents h =
    let k : l ≤ length frames = omega arith in
    let m : sum ls ≤ length (drop l frames) = rw length-drop (omega arith) in
    rw (length-take-le l frames k, lent-codes n ls (drop l frames) (drop n contents) m)

pub length-lent : (n : ℕ) (ls frames contents : List ℕ) → length (lent_frames n ls frames contents) ≡ length ls
unfolding lent_frames
length-lent n [] frames contents = refl
length-lent n (l ∷ ls) frames contents = ap suc (length-lent n ls (drop l frames) (drop n contents))

-- one frame more
pub lent-suc : (n : ℕ) (ls frames contents : List ℕ) (k : ℕ) → k < length ls
    → lent_frames n (take (suc k) ls) frames contents
    ≡ lent_frames n (take k ls) frames contents
    ++ (record { code = take (get_or ls k 0) (drop (sum (take k ls)) frames); content = take n (drop (n * k) contents) } ∷ [])
unfolding lent_frames sum
lent-suc n [] frames contents k h = absurd (not-suc-le-zero h)
lent-suc n (l ∷ ls) frames contents zero h = rw mul-zero
lent-suc n (l ∷ ls) frames contents (suc k) h =
    let m : n * suc k ≡ n + n * k = mul-suc n k ∙ add_comm (n * k) n in
    rw (m, ← drop-drop (sum (take k ls)) l frames, ← drop-drop (n * k) n contents)
    (ap (λ (x : List Frame). record { code = take l frames; content = take n contents } ∷ x)
    (lent-suc n ls (drop l frames) (drop n contents) k (le_of_suc-le-suc h)))

-- frames of zeros have these lengths
pub zero-codes : (n : ℕ) (ls : List ℕ) → lengths (map (zero_frame n) ls) ≡ ls
unfolding zero_frame
zero-codes n [] = refl
zero-codes n (l ∷ ls) = rw (length-replicate {A = ℕ} l 0, zero-codes n ls)

-- the codes of a file's frames have its lengths, if those lent have theirs
pub with-codes : (n : ℕ) (p : Positions) (ls frames contents : List ℕ)
    → sum (between p ls) ≡ length frames → p.first ≤ p.end
    → lengths (frames_with n p ls frames contents) ≡ ls
unfolding frames_with
with-codes n p ls frames contents s h =
    let codes : Frame → ℕ = λ f. length f.code in
    let before = map (zero_frame n) (take p.first ls) in
    let lent = lent_frames n (between p ls) frames contents in
    map-append codes (before ++ lent) (map (zero_frame n) (drop p.end ls))
    ∙ rw (
      map-append codes before lent,
      zero-codes n (take p.first ls),
      zero-codes n (drop p.end ls),
      lent-codes n (between p ls) frames contents (le_of_eq s),
      ← take-take p.first p.end ls h,
      take-append-drop p.first (take p.end ls),
    )
    (take-append-drop p.end ls)

-- cutting the joined bytes of frames gives the frames back
pub lent_real : (n : ℕ) (fs : List Frame) → Even n fs
    → lent_frames n (lengths fs) (codes fs) (contents true fs) ≡ fs
unfolding lent_frames flat_map
lent_real n [] e = refl
lent_real n (f ∷ fs) e =
    rw (
      take_at f.code (flat_map (λ (g : Frame). g.code) fs) (length f.code) refl,
      drop_at f.code (flat_map (λ (g : Frame). g.code) fs) (length f.code) refl,
      take_at f.content (flat_map (λ (g : Frame). g.content) fs) n e.0,
      drop_at f.content (flat_map (λ (g : Frame). g.content) fs) n e.0,
    )
    (ap (λ (x : List Frame). f ∷ x) (lent_real n fs e.1))

-- `&l[f..t]` is lent as `mid_of f (t - f) l`
pub mid_slice : {A : Type 0} (f t : ℕ) (l : List A) → take (t - f) (drop f l) ≡ slice f t l
mid_slice zero t l = let e : t - 0 ≡ t = omega arith in ap (λ (n : ℕ). take n l) e
mid_slice (suc f) zero l = let e : 0 - suc f ≡ 0 = omega arith in ap (λ (n : ℕ). take n (drop (suc f) l)) e
mid_slice (suc f) (suc t) [] = take-nil (suc t - suc f)
mid_slice (suc f) (suc t) (x ∷ l) = let e : suc t - suc f ≡ t - f = omega arith in ap (λ (n : ℕ). take n (drop f l)) e ∙ mid_slice f t l

-- the frames of the needed positions are those that are lent
pub with-between : (n : ℕ) (p : Positions) (ls frames contents : List ℕ) → p.first ≤ p.end → p.end ≤ length ls
    → between p (frames_with n p ls frames contents) ≡ lent_frames n (between p ls) frames contents
unfolding frames_with
with-between n p ls frames contents h k =
    let a = map (zero_frame n) (take p.first ls) in
    let b = lent_frames n (between p ls) frames contents in
    let la : length a ≡ p.first = length-map (take p.first ls) (zero_frame n) ∙ length-take-le p.first ls (omega arith) in
    let lb : length b ≡ p.end - p.first = length-lent n (between p ls) frames contents ∙ length-slice p.first p.end ls k in
    let l : length (a ++ b) ≡ p.end = rw (length-append, la, lb) (omega arith) in
    ap (drop p.first) (take_at (a ++ b) (map (zero_frame n) (drop p.end ls)) p.end l) ∙ drop_at a b p.first la
