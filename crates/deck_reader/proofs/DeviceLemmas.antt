-- The keys of a device.
use Rattle.std.proofs.Common.{◌≡◌, List, ◌∷◌, Ok, ap}
use Rattle.deck_reader.specs.declared.device.Size.{Size}
use Rattle.deck_reader.specs.Words.{Word}
use Rattle.deck_reader.specs.Numbers.{◌>>=◌}
use Rattle.deck_reader.specs.Elements.{with_key, with_keys}

-- one more key
pub with_keys-next : (size next : Size) (key value : Word) (words : List Word) → with_key size key value ≡ Ok next → with_keys size (key ∷ value ∷ words) ≡ with_keys next words
unfolding with_keys
with_keys-next size next key value words h = ap (λ r. r >>= (λ s. with_keys s words)) h
