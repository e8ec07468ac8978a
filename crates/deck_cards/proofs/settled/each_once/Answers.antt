use Rattle.std.proofs.Common.{◌≡◌, ◌∙◌, [], ap, sym}
use Rattle.std.specs.Result.{OnOk}
use Rattle.std.specs.Str.{bytes_eq}
use Rattle.std.proofs.lemmas.List.{map-id}
use Rattle.std.proofs.lemmas.Iterator.Adapters.{fact_from_extend, YieldsList-from_vec}
use Rattle.indexmap.specs.IndexMap.{insert_all}
use Rattle.deck_cards.specs.Settled.{put_all}
use Rattle.deck_cards.proofs.Once.{put_all_is}
use Rattle.deck_cards.proofs.settled.each_once.Goals as goal

pub returns : goal.returns
returns g c =
    let items = c.args.pairs.items in
    let h : OnOk c.extend.result (c.extend.new.self.entries ≡ put_all items) =
    fact_from_extend (λ x. x) c.extend.result c.extend.ensures.ran (λ it b. YieldsList-from_vec {s = it} _ b.0 (b.1 ∙ c.args.pairs.ok.0))
    (λ xs e h. h.0 ∙ ap (λ l. insert_all bytes_eq l xs) c.new-map.ensures.empty ∙ ap (insert_all bytes_eq []) (sym (map-id xs) ∙ e) ∙ put_all_is [] items) in
    rw c.in_ok-extend.was at h
