-- What the grace-period law needs to know of an execution, and the relations that it is written in.
use Rattle.std.specs.Prelude.{◌≡◌, ℕ, ◌<◌, ◌≤◌, true}
use Rattle.relations.specs.Algebra.{Set, Rel, seq, inverse, opt, star, to}

-- Events are numbers. `prop`, `hb` and `strong` may be any relations, so that the law serves any rule book.
pub record Scene : Type 0 where
  -- how many events there are: they are the numbers below it
  pub count : ℕ
  -- program order
  pub po : Rel
  -- propagation order, and happens-before
  pub prop : Rel
  pub hb : Rel
  -- from the events before a strong fence to those after it
  pub strong : Rel
  -- read-side critical sections: `crit l u` where the lock `l` is closed by the unlock `u`
  pub crit : Rel
  -- grace periods: the calls of synchronize_rcu
  pub period : Set

-- r relates only the first n events
abbrev pub Within : ℕ → Rel → Type 0
Within n r = (a b : ℕ) → r a b ≡ true → (a < n) × (b < n)

-- r holds wherever s does
abbrev pub Contains : Rel → Rel → Type 0
Contains r s = (a b : ℕ) → s a b ≡ true → r a b ≡ true

-- gp: from the events po-before a grace period to the period itself and all after it
unfoldable pub gp : Scene → Rel
gp x = seq (to x.po x.period) (opt x.count x.po)

-- rscs: from the events po-before the unlock of a section to its lock and all after that
unfoldable pub rscs : Scene → Rel
rscs x = seq x.po (seq (inverse x.crit) (opt x.count x.po))

-- pb, propagates-before, with f for the strong fences
unfoldable pub pb : Scene → Rel → Rel
pb x f = seq x.prop (seq f (star x.count x.hb))

-- link: how one period or section leads on to the next
unfoldable pub link : Scene → Rel → Rel
link x f = seq (star x.count x.hb) (seq (star x.count (pb x f)) x.prop)

-- The scene is sound: at most 64 events, `prop`, `hb`, sections and periods among them, and every grace period is a strong fence.
pub record Sound (x : Scene) : Type 0 where
  pub few : x.count ≤ 64
  pub prop_within : Within x.count x.prop
  pub hb_within : Within x.count x.hb
  pub crit_within : Within x.count x.crit
  pub period_within : (s : ℕ) → x.period s ≡ true → s < x.count
  pub periods_fence : Contains x.strong (gp x)
