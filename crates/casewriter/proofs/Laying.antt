-- Bytes that are laid one after another.
use Rattle.std.proofs.lemmas.Bool.Decides.{nat_tests}
use Rattle.std.proofs.Common.{◌≡◌, ℕ, ◌+◌, ◌/◌, ◌%◌, ◌^◌, ◌<◌, ◌≤◌, List, [], ◌∷◌, ◌++◌, length, get_or, take, drop, set, decimal, sym, refl, ap, ◌∙◌, ap₂, arith}
use Rattle.std.proofs.lemmas.List.{append_assoc, length-append, length-set, take_more, take_more_set, take-append-drop, set_past, drop-set-lt}
use Rattle.std.proofs.lemmas.Fmt.{decimal_digit, decimal_step, length-decimal-le}
use Rattle.casewriter.specs.Laid.{laid, Put}

-- nothing
pub put_none : (at : ℕ) (xs : List ℕ) → Put at [] xs xs at
unfolding laid
put_none at xs = record { bytes = refl; behind = omega arith }

-- one byte, in the buffer or past its end
pub put_one : (at b : ℕ) (xs : List ℕ) → Put at (b ∷ []) xs (set xs at b) (at + 1)
unfolding laid
put_one at b xs = record { bytes = refl; behind = refl }

pub put_past : (at b : ℕ) (xs : List ℕ) → length xs ≤ at → Put at (b ∷ []) xs xs (at + 1)
unfolding laid
put_past at b xs h = record { bytes = sym (set_past xs at b h); behind = refl }

-- one after another
laid_append : (at : ℕ) (ls bs xs : List ℕ) → laid at (ls ++ bs) xs ≡ laid (at + length ls) bs (laid at ls xs)
unfolding laid
laid_append at [] bs xs = ap (λ (n : ℕ). laid n bs xs) (omega arith)
laid_append at (a ∷ ls) bs xs = laid_append (at + 1) ls bs (set xs at a) ∙ ap (λ (n : ℕ). laid n bs (laid (at + 1) ls (set xs at a))) (omega arith)

pub then_put : {at middle end : ℕ} {ls bs xs ys zs : List ℕ} → Put at ls xs ys middle → Put middle bs ys zs end → Put at (ls ++ bs) xs zs end
then_put {at = at} {ls = ls} {bs = bs} {xs = xs} p q = grind (arith, nat_tests, laid_append, length-append)

-- the same bytes in other words
pub spelled_so : {at end : ℕ} {ls bs xs ys : List ℕ} → ls ≡ bs → Put at ls xs ys end → Put at bs xs ys end
spelled_so e p = rw e at p

-- ---- a buffer with room

-- the front is kept, the bytes follow, and then what stood there
laid_room : (at : ℕ) (bs xs : List ℕ) → at + length bs ≤ length xs → laid at bs xs ≡ take at xs ++ (bs ++ drop (at + length bs) xs)
unfolding laid
laid_room at [] xs h = grind (arith, nat_tests, take-append-drop)
laid_room at (b ∷ bs) xs h =
    laid_room (at + 1) bs (set xs at b) (omega (arith, length-set xs at b))
    ∙ ap₂ (λ (f d : List ℕ). f ++ (bs ++ d)) (take_more_set xs at b (omega arith)) (drop-set-lt (at + 1 + length bs) xs at b (omega arith))
    ∙ append_assoc (take at xs) (b ∷ []) (bs ++ drop (at + 1 + length bs) xs)
    ∙ ap (λ (n : ℕ). take at xs ++ (b ∷ (bs ++ drop n xs))) (omega arith)

pub laid_front : (bs xs : List ℕ) → length bs ≤ length xs → laid 0 bs xs ≡ bs ++ drop (length bs) xs
laid_front bs xs h = grind (arith, nat_tests, laid_room)

-- ---- words and numbers

-- one byte more of a word
pub word_more : {at middle end : ℕ} {xs ys zs : List ℕ} (i : ℕ) (w : List ℕ) → i < length w → Put at (take i w) xs ys middle → Put middle (get_or w i 0 ∷ []) ys zs end → Put at (take (i + 1) w) xs zs end
word_more i w h p q = spelled_so (sym (take_more w i 0 h)) (then_put p q)

pub digit_put : {at end : ℕ} {xs ys : List ℕ} (n : ℕ) → n < 10 → Put at ((48 + n % 10) ∷ []) xs ys end → Put at (decimal n) xs ys end
digit_put n h p = grind (arith, nat_tests, spelled_so, decimal_digit)

pub number_put : {at middle end : ℕ} {xs ys zs : List ℕ} (n : ℕ) → 10 ≤ n → n < 2 ^ 32 → Put at (decimal (n / 10)) xs ys middle → Put middle ((48 + n % 10) ∷ []) ys zs end → Put at (decimal n) xs zs end
number_put n h k p q = spelled_so (sym (decimal_step n h (omega arith))) (then_put p q)

pub number_within : {at end : ℕ} {xs ys : List ℕ} (n : ℕ) → n < 2 ^ 32 → Put at (decimal n) xs ys end → end ≤ at + 10
number_within n h p = omega (arith, p.behind, length-decimal-le 10 n (omega arith) (omega arith) (omega arith))
