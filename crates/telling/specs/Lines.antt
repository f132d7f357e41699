-- The lines that a ruling is printed as, in their order. docs/RULING.md, "The printed lines", says what each means.
use Rattle.std.specs.Prelude.{ℕ, zero, suc, ◌*◌, Bool, List, [], ◌++◌, codes, take, map, if◌then◌else◌}
use Rattle.std.specs.List.{flat_map}
use Rattle.std.specs.Fmt.{decimal}
use Rattle.rows.specs.Row.{bit, count}
use Rattle.rulings.specs.declared.kinds.Breach.{Breach}
use Rattle.rulings.specs.declared.kinds.Report.{Report}
use Rattle.rulings.specs.declared.kinds.Reports.{Reports}
use Rattle.rulings.specs.declared.kinds.Rule.{Rule}
use Rattle.rulings.specs.declared.kinds.Rule.TheVariants.{Scpv, At, Hb, Pb, Rcu}
use Rattle.rulings.specs.declared.kinds.SheetRow.{SheetRow}
use Rattle.rulings.specs.declared.kinds.Verdict.TheVariants.{Allowed, Forbidden}
use Rattle.rulings.specs.declared.shapes.Shape.{Shape}
use Rattle.rulings.specs.Names.{rule_name, report_name}
use Rattle.rulings.specs.Rules.{rules}
use Rattle.rulings.specs.Rulings.{report_of, row}
use Rattle.telling.specs.declared.texts.Judgment.{Judgment}

-- `RULE kept` or `RULE broken`
abbrev pub report_line : Rule → Report → List ℕ
report_line k r = rule_name k ++ (codes " " ++ (report_name r ++ codes "\n"))

-- a line for each rule
unfoldable pub report_lines : Reports → List ℕ
report_lines r = flat_map (λ k. report_line k (report_of r k)) rules

-- one entry of a list
abbrev pub entry : ℕ → List ℕ
entry x = codes " " ++ decimal x

-- `WORD N P ..`: a word, how many entries there are, and the first so many of them
unfoldable pub list_line : List ℕ → ℕ → List ℕ → List ℕ
list_line word n xs = word ++ (codes " " ++ (decimal n ++ (flat_map entry (take n xs) ++ codes "\n")))

-- the marks are listed for Rcu alone
unfoldable pub marks_line : Rule → ℕ → List SheetRow → List ℕ
marks_line Rcu n sheet = list_line (codes "marks") n (map (λ r. r.mark) sheet)
marks_line Scpv n sheet = []
marks_line At n sheet = []
marks_line Hb n sheet = []
marks_line Pb n sheet = []

-- `forbidden RULE`, its round, and for Rcu the marks
unfoldable pub forbidden_lines : Breach → List SheetRow → List ℕ
forbidden_lines b sheet = codes "forbidden " ++ (rule_name b.rule ++ (codes "\n" ++ (list_line (codes "round") b.length (map (λ r. r.event) sheet) ++ marks_line b.rule b.length sheet)))

-- `LOCK PERIOD section` or `LOCK PERIOD period`
unfoldable pub pair_line : ℕ → ℕ → Bool → List ℕ
pair_line l s first = decimal l ++ (codes " " ++ (decimal s ++ (codes " " ++ ((if first then codes "section" else codes "period") ++ codes "\n"))))

-- the lines of a section, by its lock and its word, and the periods below n
unfoldable pub section_lines : ℕ → ℕ → ℕ → ℕ → List ℕ
section_lines l word periods zero = []
section_lines l word periods (suc n) = section_lines l word periods n ++ (if bit periods n then pair_line l n (bit word n) else [])

-- the lines of the sections whose locks are below n
unfoldable pub table_lines : Shape → List SheetRow → ℕ → List ℕ
table_lines s sheet zero = []
table_lines s sheet (suc n) = table_lines s sheet n ++ (if bit s.locks n then section_lines n (row sheet n).word s.periods 64 else [])

-- `allowed`, the two orders, how many pairs of a section and a period there are, and a line for each
unfoldable pub allowed_lines : Shape → List SheetRow → List ℕ
allowed_lines s sheet =
    codes "allowed\n" ++ (list_line (codes "first") s.events (map (λ r. r.first) sheet)
    ++ (list_line (codes "second") s.events (map (λ r. r.second) sheet)
    ++ (codes "precedence " ++ (decimal (count 64 (bit s.locks) * count 64 (bit s.periods)) ++ (codes "\n" ++ table_lines s sheet 64)))))

-- a ruling with what its sheet shows
abbrev pub ruling_lines : Judgment → List SheetRow → List ℕ
ruling_lines j sheet = report_lines j.ruling.reports ++ elim j.ruling.verdict [ Allowed ↦ allowed_lines j.shape sheet | Forbidden b ↦ forbidden_lines b sheet ]
