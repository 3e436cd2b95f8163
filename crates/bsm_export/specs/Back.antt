-- Steps back as numbers. Assumes nothing.
use Rattle.std.specs.Prelude.{ℕ}
use Rattle.bsm_item.specs.Meaning.{Part}
use Rattle.bsm_back.specs.Back.{Back, found, boundary, refused}
use Rattle.bsm_back.specs.Meaning.{LocatedBack}
use Rattle.bsm_export.specs.Items.{no_item, flat_found}
use Rattle.bsm_export.specs.declared.back.BsmBefore.{BsmBefore}

-- a step back from p, whose record has its body in the part w and its address in a: only a record leads to another place
unfoldable pub stepped_back : ℕ → Back → Part → Part → BsmBefore
stepped_back p (found i) w a = record { item = flat_found i.what w a; place = i.place }
stepped_back p (boundary n) w a = record { item = no_item 4 0 0 n; place = p }
stepped_back p (refused e q n) w a = record { item = no_item 3 e q n; place = p }

abbrev pub flat_back : ℕ → LocatedBack → BsmBefore
flat_back p l = stepped_back p l.back l.part l.address
