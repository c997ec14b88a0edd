-- A `&` to a region is made where one to its bytes is.
use denote.Param.Shared.{copy_shared}
use denote.Struct.Field.{RawPtr-field, usize-field, u8-field}
use denote.Struct.Laws.{RawPtr-copy, usize-copy, u8-copy}
use denote.Struct.Lending.{of_Lends}
use Rattle.region.specs.contracts.region.Region as C
use Rattle.region.proofs.Shares.{region_laws, region_shared}
use Rattle.region.proofs.region.Region.TheLaw.Statement.{statement}

pub shares : statement
shares = of_Lends C.struct C.the_codes C.the_heap C.the_lent (λ d p. region_laws d.at d.len d.content)
    (copy_shared RawPtr-field RawPtr-copy, (copy_shared usize-field usize-copy, tt))
    (λ M 𝓤 𝓛 d p. region_shared 𝓛 (C.the_row).lives ((copy_shared u8-field u8-copy).shares M 𝓤 𝓛) d.at d.len d.content)
