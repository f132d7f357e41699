-- Pairs within a thread and between threads, and pairs from a set to a set.
use Rattle.std.proofs.lemmas.Bool.Decides.{nat_tests}
use Rattle.std.proofs.Common.{◌≡◌, sym, ap, ◌∙◌, arith}
use Rattle.relations.specs.Algebra.{Set, Rel, inter, diff, product, from, to, within}
use Rattle.relations.specs.Table.{On}
use Rattle.relations.specs.View.{rel, size}
use Rattle.relations.specs.declared.kinds.Relation.{Relation}
use Rattle.relations.proofs.Ranges.{on_rel, on_more}
use Rattle.relations.proofs.Tables.{on_at}
use Rattle.basis.specs.Basis.{Basis, ext}
use Rattle.basis.specs.View.{basis_of}
use Rattle.basis.specs.declared.kinds.Base.{Base}

-- of pairs of events, those between threads are those that are not within one
pub between_threads : (b : Basis) (r : Rel) → On b.count r → inter r (ext b) ≡ diff r b.int
unfolding inter ext diff product within
between_threads b r on = grind (arith, nat_tests)

-- pairs from one set to another
pub from_to : (r : Rel) (s t : Set) → inter r (product s t) ≡ to (from s r) t
unfolding inter product to from
from_to r s t = grind (arith, nat_tests)

-- the same for a relation of the code
pub outside : (b : Base) (x : Relation) (r : Rel) → size x ≡ size b.po → rel x ≡ r → diff (rel x) (rel b.int) ≡ inter r (ext (basis_of b))
outside b x r size_is is =
    ap (λ (s : Rel). diff s (rel b.int)) is
    ∙ sym (between_threads (basis_of b) r (on_at (size b.po) r (rel x) (sym is) (on_more (size x) (size b.po) (rel x) (omega arith) (on_rel x))))
