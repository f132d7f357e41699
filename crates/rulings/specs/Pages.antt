-- Columns of the sheet as the code fills them.
-- For the contracts of private functions; no public contract cites it.
use Rattle.std.specs.Prelude.{◌≡◌, ℕ, ◌<◌, List, length, get_or, slice_index, slice_index_or}
use Rattle.rulings.specs.declared.kinds.SheetRow.{SheetRow}
use Rattle.rulings.specs.declared.pages.Page.{Page}
use Rattle.relations.specs.Algebra.{Rel}
use Rattle.searches.specs.Places.{IsOrder}
use Rattle.rulings.specs.Rulings.{row, Lists}

-- a column that lists some bytes, and 255 after them
abbrev pub Column : List ℕ → List ℕ → Type 0
Column xs column = (i : ℕ) → i < 64 → slice_index_or column i 255 ≡ slice_index_or xs i 255

-- a page that lists a round with its marks
pub record Paged (es ms : List ℕ) (p : Page) : Type 0 where
  pub events_are : Column es p.events
  pub marks_are : Column ms p.marks
  pub steps_are : p.steps ≡ length es

-- a page that lists something of which P holds
pub record PageOf (P : List ℕ → List ℕ → Type 0) (p : Page) : Type 0 where
  pub events : List ℕ
  pub marks : List ℕ
  pub holds : P events marks
  pub paged : Paged events marks p

-- a column that lists the places of n events in an order that rises along r
pub record OrderIn (r : Rel) (n : ℕ) (column : List ℕ) : Type 0 where
  pub places : List ℕ
  pub all : length places ≡ n
  pub order : IsOrder r n (λ a. get_or places a 255)
  pub listed : Column places column

-- the rows are made of these columns
abbrev pub Drawn : Page → List ℕ → List ℕ → List ℕ → List SheetRow → Type 0
Drawn page first second words sheet = (i : ℕ) → i < 64 → row sheet i ≡ record { event = slice_index_or page.events i 255; mark = slice_index_or page.marks i 255; first = slice_index_or first i 255; second = slice_index_or second i 255; word = slice_index words i }

-- a sheet that lists something of which P holds, beside these words
pub record Listing (P : List ℕ → List ℕ → List ℕ → List ℕ → Type 0) (words : List ℕ) (sheet : List SheetRow) : Type 0 where
  pub round : List ℕ
  pub marks : List ℕ
  pub first : List ℕ
  pub second : List ℕ
  pub holds : P round marks first second
  pub lists : Lists sheet round marks first second
  pub worded : (i : ℕ) → i < 64 → (row sheet i).word ≡ slice_index words i
