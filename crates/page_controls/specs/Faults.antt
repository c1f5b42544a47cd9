-- What is wrong with the controls of a page, and the order of the faults.
use Rattle.std.specs.Prelude.{ℕ, ◌≡◌, ◌⊎◌, List, Some}
use Rattle.rdf_terms.specs.declared.term.Quad.{Quad}
use Rattle.template_fill.specs.Templates.{Template, read_template}
use Rattle.fragment_page.specs.declared.page.PageFault.{PageFault}
use Rattle.fragment_page.specs.declared.page.PageFault.TheVariants.{Text, NoTopic, NoCount, CountText, NoForm, BadTemplate, TwoNext, ForeignLink, BlankData, OutOfMemory}
use Rattle.control_triples.specs.Controls.{FormTexts, IsLeastForm, HasForeignNext}
use Rattle.page_controls.specs.Controls.{IsForeign}

-- the texts of its least form are so
abbrev pub FindsForm : (FormTexts → Type 0) → List Quad → List ℕ → Type 0
FindsForm P quads topic = (texts : FormTexts) × IsLeastForm quads topic texts × P texts

abbrev pub HasForeignForm : List ℕ → FormTexts → Type 0
HasForeignForm authority texts = (template : Template) × (read_template texts.template ≡ Some template) × IsForeign template authority

abbrev pub HasForeignLink : List ℕ → List Quad → List ℕ → Type 0
HasForeignLink authority quads topic = HasForeignNext quads topic authority ⊎ FindsForm (HasForeignForm authority) quads topic

-- the order of the faults
abbrev pub place_of : PageFault → ℕ
place_of Text = 0
place_of NoTopic = 1
place_of NoCount = 2
place_of CountText = 3
place_of NoForm = 4
place_of BadTemplate = 5
place_of TwoNext = 6
place_of ForeignLink = 7
place_of BlankData = 8
place_of OutOfMemory = 9
