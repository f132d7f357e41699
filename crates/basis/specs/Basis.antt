-- What a memory model is given: the events of a candidate execution and the relations and sets that it starts from.
use Rattle.std.specs.Prelude.{ℕ, true}
use Rattle.relations.specs.Algebra.{Set, Rel, identity, product, diff, within}

pub record Basis : Type 0 where
  -- how many events there are: they are the numbers below it
  pub count : ℕ
  -- program order
  pub po : Rel
  -- of one thread, and of one place
  pub int : Rel
  pub loc : Rel
  -- reads-from, coherence (its closure), the dependencies, and the pairs of a read-modify-write
  pub rf : Rel
  pub co : Rel
  pub addr : Rel
  pub «data» : Rel
  pub ctrl : Rel
  pub rmw : Rel
  -- read-side critical sections: an outermost lock and the unlock that closes it
  pub crit : Rel
  -- the reads, the writes, and the events of a sort
  pub reads : Set
  pub writes : Set
  pub acquires : Set
  pub releases : Set
  pub rmbs : Set
  pub wmbs : Set
  pub mbs : Set
  pub rb_deps : Set
  pub periods : Set

-- id: each event with itself
unfoldable pub id : Basis → Rel
id b = identity b.count

-- ext: every pair of events that is not of one thread
unfoldable pub ext : Basis → Rel
ext b = diff (product (within b.count (λ _. true)) (within b.count (λ _. true))) b.int
