-- What an array's `map` gives, where its closure works out a function: the list's `map`. Assumes nothing.
use mathlib.Core.Path.{◌≡◌, sym, ◌∙◌}
use mathlib.Core.List.{List, map}
use Prim.Native.Nat.{ℕ}
use native.Mathlib.Omega.{arith}
use lib.ListN.{length, get_or-map, length-map}
use lib.Seq.{ext_get_or}
use Rattle.std.specs.Fn.{Called, Mut}
use Rattle.std.specs.Array.{IsMapOf}

pub mapped : {F A B : Type 0} {g : Mut F (A × Unit {0}) B} {f : F} {xs : List A} {ys : List B} {n : ℕ} (h : A → B) → IsMapOf g f xs ys n → length xs ≡ n
    → A → ((p q : F) (x : A) (y : B) → Called g p (x, tt) y q → y ≡ h x) → ys ≡ map h xs
mapped {xs = xs} {ys = ys} h made long d gives =
    ext_get_or (h d) ys (map h xs) (made.long ∙ sym long ∙ sym (length-map xs h))
    (λ i l.
    let c = made.at i d (h d) (omega (arith, made.long)) in
    gives c.0 c.1 _ _ c.2 ∙ sym (get_or-map h xs i d))
