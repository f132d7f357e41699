use Rattle.std.proofs.lemmas.Grind.{common_steps}
use Rattle.std.proofs.Common.{sym, ap, ◌∙◌, arith}
use Rattle.rows.specs.Row.{Set}
use Rattle.executions.specs.declared.sorts.Sort.TheVariants.{SyncRcu}
use Rattle.sources.specs.Snapshot.{execution}
use Rattle.basis.specs.Meaning.{basis}
use Rattle.basis.proofs.Members.{sort_inside}
use Rattle.basis.proofs.groups.Grouped.base.Goals as goal

pub invariant_of-result : goal.invariant_of-result
invariant_of-result c =
    let n = sym c.program_order.ensures.events in record {
      int_alike = c.internal.ensures.events ∙ n;
      loc_alike = c.located.ensures.events ∙ n;
      rf_alike = c.ties.ensures.events ∙ n;
      co_alike = c.plus.ensures.events ∙ c.ties-2.ensures.events ∙ n;
      addr_alike = c.ties-3.ensures.events ∙ n;
      data_alike = c.ties-4.ensures.events ∙ n;
      ctrl_alike = c.ties-5.ensures.events ∙ n;
      rmw_alike = c.ties-6.ensures.events ∙ n;
      crit_alike = c.sections.ensures.events ∙ n;
      inside = λ s h. omega (arith, sort_inside (execution c.args.self.now.case.now) SyncRcu s (ap (λ (f : Set). f s) (sym c.sorted-7.ensures) ∙ h), c.program_order.ensures.events);
    }

pub returns : goal.returns
unfolding basis
returns c = grind (arith, common_steps)
