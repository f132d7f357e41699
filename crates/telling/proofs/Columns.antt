-- A column of the sheet, row by row.
use Rattle.std.proofs.Common.{◌≡◌, ℕ, ◌<◌, List, length, map, sym, ◌∙◌, get_or}
use Rattle.std.proofs.lemmas.List.{ext_get_or, get_or-map, length-map}
use Rattle.rulings.specs.declared.kinds.SheetRow.{SheetRow}
use Rattle.rulings.specs.Rulings.{blank}

pub column : (entry : SheetRow → ℕ) (sheet : List SheetRow) (entries : List ℕ) → length sheet ≡ 64 → length entries ≡ 64 → ((i : ℕ) → i < 64 → get_or entries i 0 ≡ entry (get_or sheet i blank)) → entries ≡ map entry sheet
column entry sheet entries rows long each =
    ext_get_or 0 entries (map entry sheet) (long ∙ sym (length-map sheet entry ∙ rows))
    (λ i lt. each i (rw long at lt) ∙ sym (get_or-map entry sheet i blank 0 (rw (long ∙ sym rows) at lt)))
