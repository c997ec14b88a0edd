use Rattle.std.specs.Prelude.{◌≡◌, List, [], ◌∷◌, ◌⊎◌}
use Rattle.guestmem.specs.Item.{Item}

-- The item is one of these.
abbrev pub Among : List Item → Item → Type 0
Among [] i = ⊥
Among (j ∷ js) i = (i ≡ j) ⊎ Among js i
