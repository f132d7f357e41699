use Rattle.std.proofs.Common.{ℕ, replicate, ap, ◌∙◌}
use Rattle.std.proofs.lemmas.List.{length-replicate}
use Rattle.executions.specs.Execution.{unused}
use Rattle.textsource.specs.Meaning.{holding}
use Rattle.textsource.proofs.Meanings.{read_holds, refusal_holds}
use Rattle.textsource.proofs.scan.Goals as goal

pub returns-in-Ok-clause-held : goal.returns-in-Ok-clause-held
returns-in-Ok-clause-held c =
    ap (λ n. holding n c.read.new.events c.read.new.ties) c.count-count.ensures
    ∙ read_holds c.args.text.now (replicate 64 unused) (replicate 384 0) c.read.new.events c.read.new.ties c.in-Ok.case c.in-Ok.ensures.reads (length-replicate 64 unused) (length-replicate {A = ℕ} 384 0)

pub returns-in-Err-clause-held : goal.returns-in-Err-clause-held
returns-in-Err-clause-held c = refusal_holds c.args.text.now (replicate 64 unused) (replicate 384 0) c.read.new.events c.read.new.ties _ c.in-Err.ensures.reads (length-replicate 64 unused) (length-replicate {A = ℕ} 384 0)
