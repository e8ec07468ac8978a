use Rattle.std.proofs.Common.{◌≡◌, ◌↔◌, List, ℕ, Contains, true}
use Rattle.outside.specs.MemFile.{FileState}
use Rattle.outside.specs.MemShelf.{names_of}
use Rattle.outside.proofs.Named.{LookedUp, looked_up}
use Rattle.outside.proofs.mem_shelf.MemShelf.has.Goals as goal

abbrev name_of : FileState → List ℕ
name_of f = f.name

pub returns : goal.returns
returns c =
    let look : LookedUp name_of c.deref.result.now c.self.inside.files.items c.args.name.now c.place_of.result = record { same = c.deref.ensures.value; is = c.place_of.ensures } in
    let tells : (c.is_some.result ≡ true) ↔ Contains (names_of c.args.self.now) c.args.name.now =
    rw (← c.self.view_is, c.is_some.ensures) (looked_up name_of _ _ _ _ look) in
    tells
