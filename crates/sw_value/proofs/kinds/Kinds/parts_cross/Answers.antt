use Rattle.sw_value.proofs.SettledLemmas.{parts_cross, error_parts_cross}
use Rattle.sw_value.proofs.kinds.Kinds.parts_cross.Goals as goal

pub returns-clause-codable : goal.returns-clause-codable
returns-clause-codable c = parts_cross _ _ c.levels-levels.ensures

pub returns-clause-errors : goal.returns-clause-errors
returns-clause-errors c = error_parts_cross _ _ c.levels-levels.ensures
