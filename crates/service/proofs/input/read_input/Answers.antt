use Rattle.std.proofs.Common.{List, ℕ, subst, sym}
use Rattle.std.specs.Io.KnownBytes.{Consumes}
use Rattle.std.proofs.KnownBytes.{Consumes-trans}
use Rattle.service.proofs.Filling.{took_more, took_fits}
use Rattle.service.proofs.input.read_input.Goals as goal

pub loop-got-preserved : goal.loop-got-preserved
loop-got-preserved g c =
    let read = c.in_ok-n.ensures in
    record {
      fits = took_fits c.loop-got.buffer c.read.new.buf c.loop-got.got c.in_ok-n.n c.loop-got.invariant.fits read.bound.0;
      bytes =
          subst (λ (x : List ℕ). Consumes (g.R.Read.remaining c.args.input.now) (g.R.Read.remaining c.read.new.self) x)
          (sym (took_more c.loop-got.buffer c.read.new.buf c.loop-got.got c.in_ok-n.n c.loop-got.invariant.fits read.bound.0))
          (Consumes-trans _ _ _ _ _ c.loop-got.invariant.bytes read.bytes.0);
    }
