use Rattle.std.proofs.Common.{◌≡◌, ◌∙◌, refl, sym, ap, map}
use Rattle.semantics.specs.Deck.{DeckValue}
use Rattle.deck_cards.specs.Part.{part_of}
use Rattle.deck_cards.specs.Settled.{settled, put_all}
use Rattle.deck_cards.proofs.Once.{put_all_map}
use Rattle.deck_cards.proofs.settled.Settled.of.Goals as goal

once_is : (d : DeckValue) → settled d ≡ record d { parts = put_all d.parts; initial = put_all d.initial }
unfolding settled
once_is d = refl

pub returns : goal.returns
returns c =
    let p = c.parts.inside in
    (λ i. record {
      title = p.title;
      stop = p.stop;
      uic = p.uic;
      grain = p.grain;
      parts = (ap (map (λ q. (q.0, part_of q.1))) c.in_ok-each_once.ensures ∙ put_all_map part_of p.parts.items) i;
      initial = c.in_ok-each_once-2.ensures i;
      elements = p.elements.items;
    })
    ∙ (λ i. record (c.parts.view_is i) { parts = put_all (c.parts.view_is i).parts; initial = put_all (c.parts.view_is i).initial }) ∙ sym (once_is c.args.parts)
