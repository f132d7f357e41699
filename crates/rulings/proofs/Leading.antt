-- The events that a relation leads from.
use Rattle.std.proofs.Common.{◌≡◌, ℕ, ◌-◌, ◌^◌, true, ◌&&◌, ap, ◌∙◌}
use mathlib.Core.Path.{fun_ext}
use Rattle.std.proofs.lemmas.Bool.{and_parts, and_from}
use Rattle.rows.specs.Row.{bit, any}
use Rattle.rows.proofs.Any.{any_some, any_from}
use Rattle.rows.proofs.Bits.{bit_ones}
use Rattle.relations.specs.Algebra.{Rel, inverse, image}
use Rattle.relations.proofs.Tables.{both_same}

pub leading : (r back : Rel) (w : ℕ) → back ≡ inverse r → bit w ≡ image back (bit (2 ^ 64 - 1)) → bit w ≡ (λ a. any 64 (r a))
unfolding image inverse
leading r back w e h = h ∙ ap (λ (q : Rel). λ a. any 64 (λ u. bit (2 ^ 64 - 1) u && q u a)) e ∙ fun_ext λ a. both_same _ _ (there a) (from a)
  where
    there : (a : ℕ) → any 64 (λ u. bit (2 ^ 64 - 1) u && r a u) ≡ true → any 64 (r a) ≡ true
    there a k = let s = any_some 64 (λ u. bit (2 ^ 64 - 1) u && r a u) k in any_from 64 s.0 (r a) s.1 (and_parts (bit (2 ^ 64 - 1) s.0) (r a s.0) s.2).1

    from : (a : ℕ) → any 64 (r a) ≡ true → any 64 (λ u. bit (2 ^ 64 - 1) u && r a u) ≡ true
    from a k =
        let s = any_some 64 (r a) k in
        any_from 64 s.0 (λ u. bit (2 ^ 64 - 1) u && r a u) s.1 (and_from (bit (2 ^ 64 - 1) s.0) (r a s.0) (bit_ones 64 s.0 s.1) s.2)
