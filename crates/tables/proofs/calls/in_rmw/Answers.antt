use Rattle.std.proofs.Common.{◌≡◌, ◌||◌, ap, ◌∙◌, arith, rules, refl}
use borrow.Author.Tests.{tests}
use Rattle.rows.specs.Row.{any}
use Rattle.rows.proofs.Any.{any_over}
use Rattle.executions.specs.declared.ties.Relation.TheVariants.{Rmw}
use Rattle.executions.specs.Words.{ties_of}
use Rattle.tables.proofs.calls.in_rmw.Goals as goal

pub returns : goal.returns
returns c =
    let all : c.min.result ≡ c.args.n = omega (arith, c.min.ensures, c.requires) in
    any_over c.min.result (λ d. ties_of c.args.ties.now Rmw c.args.e d || ties_of c.args.ties.now Rmw d c.args.e) _ _ c.any.result refl c.any.ensures.ran
    (λ d t q k. search (rules, tests))
    ∙ ap (λ n. any n (λ d. ties_of c.args.ties.now Rmw c.args.e d || ties_of c.args.ties.now Rmw d c.args.e)) all
