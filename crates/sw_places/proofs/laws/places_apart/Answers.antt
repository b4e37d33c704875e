use Rattle.sw_places.proofs.Apart.{apart}
use Rattle.sw_places.proofs.laws.places_apart.Goals as goal

pub returns : goal.returns
returns c = apart
