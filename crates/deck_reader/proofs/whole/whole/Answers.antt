use Rattle.std.proofs.Common.{◌∙◌, sym}
use Rattle.deck_reader.proofs.SoundLemmas.{text_sound}
use Rattle.deck_reader.proofs.whole.whole.Goals as goal

pub with_nodes-requires-clause-once : goal.with_nodes-requires-clause-once
with_nodes-requires-clause-once c = (text_sound _ _ _ c.requires.said).once _ _

pub with_nodes-requires-clause-nodes_alone : goal.with_nodes-requires-clause-nodes_alone
with_nodes-requires-clause-nodes_alone c = (text_sound _ _ _ c.requires.said).nodes_alone _ _ c.in-Some.is (sym c.in_ok-refusal.ensures ∙ c.in-None.is)
