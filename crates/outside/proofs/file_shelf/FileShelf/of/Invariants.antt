use Rattle.std.proofs.Common.{◌≡◌, map, take, string_bytes, All}
use Rattle.outside.specs.FileShelf.{names_of}
use Rattle.outside.proofs.file_shelf.FileShelf.of.Given as goal

abbrev pub invariant-loop-word : goal.invariant-loop-word
invariant-loop-word g l =
    (names_of l.files.items ≡ map string_bytes (take l.word-index l.words))
    × All (λ f. f.faults ≡ 0) l.files.items
