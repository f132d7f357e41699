-- Columns filled from the top, with 255 below, and arrays mapped element by element.
use Rattle.std.proofs.Common.{◌≡◌, ℕ, ◌+◌, ◌-◌, ◌<◌, ◌≤◌, List, ◌++◌, map, length, get_or, drop, replicate, sym, refl, ◌∙◌, ⊎_elim, arith}
use denote.Param.Members.{Mut, Called}
use Rattle.std.specs.Array.{IsMapOf}
use Rattle.std.proofs.lemmas.List.{get_or_past, get_or_append_left, get_or-append_right, get_or-drop, get_or-replicate, get_or-map, length-map, same_lists}
use Rattle.std.proofs.lemmas.Bool.{cases_lt}

-- some bytes, and 255 after them
pub padded_is : (m : ℕ) (bytes front : List ℕ) → front ≡ bytes → length bytes ≤ m → (i : ℕ) → i < m → get_or (front ++ drop (length bytes) (replicate m 255)) i 255 ≡ get_or bytes i 255
padded_is m bytes front e few i l = rw e (⊎_elim inside past (cases_lt i (length bytes)))
  where
    inside : i < length bytes → get_or (bytes ++ drop (length bytes) (replicate m 255)) i 255 ≡ get_or bytes i 255
    inside h = get_or_append_left bytes _ 255 i h

    past : length bytes ≤ i → get_or (bytes ++ drop (length bytes) (replicate m 255)) i 255 ≡ get_or bytes i 255
    past h =
        get_or-append_right bytes _ (length bytes) i 255 refl h ∙ get_or-drop (length bytes) (replicate m 255) (i - length bytes) 255
        ∙ get_or-replicate {A = ℕ} m (length bytes + (i - length bytes)) 255 255 (omega arith) ∙ sym (get_or_past bytes i 255 h)

-- an array mapped by a function that answers h
pub mapped : {F A B : Type 0} (g : Mut F (A × Unit {0}) B) (f : F) (h : A → B) → ((p : F) (x : A) (y : B) (q : F) → Called g p (x, tt) y q → y ≡ h x) → (a : A) (xs : List A) (ys : List B) (n : ℕ) → length xs ≡ n → IsMapOf g f xs ys n
    → ys ≡ map h xs
mapped g f h step a xs ys n long m =
    same_lists ys (map h xs) (simp length-map (m.long ∙ sym long))
    (λ k d l. let s = m.at k a d (omega (arith, m.long)) in step s.0 (get_or xs k a) (get_or ys k d) s.1 s.2 ∙ sym (get_or-map h xs k a d (omega (arith, m.long))))
