use Rattle.std.proofs.Common.{◌≡◌, ap, ◌∙◌, arith, rules, refl}
use borrow.Author.Tests.{tests}
use Rattle.rows.specs.Row.{any}
use Rattle.rows.proofs.Any.{any_over}
use Rattle.executions.specs.declared.ties.Relation.TheVariants.{Rf}
use Rattle.executions.specs.Words.{ties_of}
use Rattle.tables.proofs.calls.has_rf.Goals as goal

pub returns : goal.returns
returns c =
    let all : c.min.result ≡ c.args.n = omega (arith, c.min.ensures, c.requires) in
    any_over c.min.result (λ a. ties_of c.args.ties.now Rf a c.args.b) _ _ c.any.result refl c.any.ensures.ran (λ a t q k. search (rules, tests))
    ∙ ap (λ n. any n (λ a. ties_of c.args.ties.now Rf a c.args.b)) all
