-- What stands in a list of types.
use Rattle.dart_types.specs.Ty.{Ty, Types, more}

-- the type is one of these
pub data HasType : Types → Ty → Type 0 where
  at_first : {t : Ty} {ts : Types} → HasType (more t ts) t
  at_later : {t u : Ty} {ts : Types} → HasType ts t → HasType (more u ts) t
