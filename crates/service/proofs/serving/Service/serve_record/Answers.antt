use Rattle.std.proofs.Common.{subst, List, ℕ, IfOk}
use Rattle.std.specs.Io.KnownBytes.{Appends}
use Rattle.service.proofs.serving.Service.serve_record.Goals as goal

pub returns-clause-printed : goal.returns-clause-printed
returns-clause-printed g c = (
  c.serve-reply.result,
  c.serve-reply.ensures.served,
  subst (λ (x : List ℕ). IfOk c.print_line.result (λ done. Appends (g.W.Write.contents c.args.out.now) (g.W.Write.contents c.print_line.new.out) x))
      (cc)
      c.print_line.ensures,
)
