use Rattle.std.proofs.Common.{◌≡◌, ℕ, ◌+◌, ◌-◌, length, take, drop, None, sym, refl, ap, ◌∙◌, arith, length-drop, length-take}
use Rattle.std.proofs.lemmas.Slice.{put_mid-paste}
use Rattle.report.specs.Refusals.{topmost}
use Rattle.routing.specs.Searching.{route_causes}
use Rattle.routing.proofs.Refusing.{searched_free}
use Rattle.book.specs.Answers.{network_with}
use Rattle.book.proofs.Answering.{row_answered}
use Rattle.book.proofs.answers.find_in_row.Goals as goal

pub returns : goal.returns
returns g c =
    let K = g.M.Measure.kind in
    let sites = g.N.Links.span c.args.network.now in
    let links = g.N.Links.links c.args.network.now in
    let rows = c.args.rows.now in
    let start = c.args.start in
    let width = c.args.width in
    let row = take (start + width - start) (drop start rows) in
    let long : length row ≡ width = simp (length-take, length-drop) (omega arith) in
    let free : topmost (route_causes K sites (length c.args.workspace.now.slots.now) c.args.k c.args.ask (length row)) ≡ None =
    ap (λ (n : ℕ). topmost (route_causes K sites (length c.args.workspace.now.slots.now) c.args.k c.args.ask n)) long ∙ c.requires.unrefused in
    let found = searched_free K sites links c.args.k c.args.ask c.args.workspace.now.slots.now row c.find_route.new.workspace.slots.now c.find_route.new.row c.find_route.result free c.find_route.ensures.searched in
    let long' : length c.find_route.new.row ≡ width = omega arith in
    record {
      same = c.find_route.ensures.same;
      labels = found.0;
      answer = row_answered K (network_with sites links) c.args.k c.args.ask rows row c.find_route.new.row _ start width c.requires.inside (ap (λ (n : ℕ). take n (drop start rows)) (omega arith)) long long'
          (put_mid-paste start (start + width - start) rows c.find_route.new.row c.find_route.new.row width refl (omega arith) (sym long')) c.find_route.result found.1;
    }
