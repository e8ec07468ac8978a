use Rattle.std.proofs.Common.{◌<◌, ◌∙◌, length, slice_get, sym, ap, subst}
use Rattle.deck_reader.proofs.PlacedLemmas.{zip-length, zip-at}
use Rattle.deck_reader.proofs.placed.Placed.at.Goals as goal

pub index-requires : goal.index-requires
index-requires c =
    let p = c.self.inside in
    subst (λ n. c.args.place < n) (ap length (sym c.self.view_is) ∙ sym (zip-length p.lines.items p.elements.items c.self.invariant) ∙ sym c.self.invariant ∙ sym p.lines.ok.0) c.requires

pub index-requires-2 : goal.index-requires-2
index-requires-2 c =
    let p = c.self.inside in
    subst (λ n. c.args.place < n) (ap length (sym c.self.view_is) ∙ sym (zip-length p.lines.items p.elements.items c.self.invariant) ∙ sym p.elements.ok.0) c.requires

pub returns : goal.returns
returns c =
    let p = c.self.inside in
    let within = subst (λ n. c.args.place < n) (ap length (sym c.self.view_is) ∙ sym (zip-length p.lines.items p.elements.items c.self.invariant)) c.requires in
    ap (λ l. slice_get l c.args.place) (sym c.self.view_is)
    ∙ zip-at p.lines.items p.elements.items c.args.place c.index.result.now c.index-2.result.now c.self.invariant within c.index.ensures c.index-2.ensures
