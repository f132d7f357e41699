use Rattle.std.proofs.Common.{◌≡◌, ℕ, true, false, arith, rules, tests}
use Rattle.lkmm.specs.Rules.{broken_rmw}
use Rattle.lkmm.specs.Held.{held}
use Rattle.lkmm.proofs.Splitting.{first_split, mapped_range}
use Rattle.lkmm.proofs.kinds.Model.split_rmw.Goals as goal

pub returns-clause-none : goal.returns-clause-none
returns-clause-none c =
    let m = c.args.self.now in
    first_split m c.events.result c.find_map.result (omega (arith, c.events.ensures))
    (mapped_range (λ a. (v : ℕ) → broken_rmw (held m) a v ≡ false) (λ t. broken_rmw (held m) t.read t.write ≡ true) _ _ c.find_map.result c.find_map.ensures.runs
    (λ a r q k. search (rules, tests)) (λ a k. search (rules, tests)) (λ a t k. search (rules, tests)))
