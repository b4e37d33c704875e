-- A name and labels spelled as one text: two spellings are the same exactly where the names and the labels are.
use Rattle.std.specs.Prelude.{Some, None, List, [], ◌∷◌, ◌++◌}
use Rattle.std.specs.List.{flat_map}
use Rattle.sw_sight.specs.InSight.{Text}
use Rattle.sw_declared.specs.Members.{Label}

-- a text: 1 before each byte, and 0 at the end
abbrev pub spelled_text : Text → Text
spelled_text text = flat_map (λ byte. 1 ∷ byte ∷ []) text ++ 0 ∷ []

-- a label: 0 where there is none, and else 1 and its text
unfoldable pub spelled_label : Label → Text
spelled_label None = 0 ∷ []
spelled_label (Some text) = 1 ∷ spelled_text text

-- labels: 1 before each, and 0 at the end
abbrev pub spelled_labels : List Label → Text
spelled_labels labels = flat_map (λ label. 1 ∷ spelled_label label) labels ++ 0 ∷ []

-- a name, and then labels
abbrev pub spelled : Text → List Label → Text
spelled name labels = spelled_text name ++ spelled_labels labels
