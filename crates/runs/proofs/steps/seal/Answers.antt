use Rattle.std.proofs.Common.{length, Result, sym, refl, ap, ◌∙◌}
use Rattle.executions.specs.declared.faults.Fault.{Fault}
use Rattle.executions.specs.Execution.{Execution}
use Rattle.sources.specs.Source.{bounded}
use Rattle.wellformed.specs.Faults.{first_fault}
use Rattle.tables.specs.Plain.{Plain}
use Rattle.tables.specs.Tables.{tables, plain_of, sealed_plain}
use Rattle.runs.specs.Runs.{done_answer}
use Rattle.runs.proofs.Doing.{seals_none, seals_same, same_count, exact_same}
use Rattle.runs.proofs.steps.seal.Goals as goal

pub returns-in-Ok : goal.returns-in-Ok
returns-in-Ok c =
    let h = c.in-Ok.ensures.0 in
    let rs = c.args.events.now in
    let ws = c.args.ties.now in
    let p = plain_of (tables c.args.case rs ws) in
    let q = sealed_plain c.in-Ok.sealed rs ws in
    let same = seals_same (length rs) (length ws) p q h in
    record {
      steps = (sym (ap (λ (r : Plain × Result (Unit {0}) Fault). r.0) h), sym (ap (λ (r : Plain × Result (Unit {0}) Fault). done_answer r.1) h));
      formed = ap (λ (x : Execution). first_fault (bounded x)) same ∙ seals_none (length rs) (length ws) p q h;
      exact = exact_same _ _ (same_count c.args.case.count c.in-Ok.sealed.count rs c.args.case.room c.in-Ok.sealed.room c.requires (sym (ap (λ (x : Execution). x.events) same))) refl refl;
    }
