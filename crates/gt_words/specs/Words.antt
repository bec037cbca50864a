-- The words of heaps, and what each operation does to them.
use Rattle.std.specs.Prelude.{ℕ, ◌+◌, ◌-◌, ◌^◌, ◌==◌, min, if◌then◌else◌, List, slice_index_or, slice_set}
use Rattle.gt_words.specs.declared.words.HeapWords.{HeapWords}

-- no due time in either word, and a count of 0
abbrev pub empty_words : HeapWords
empty_words = record { modified = 2 ^ 64 - 1; heap = 2 ^ 64 - 1; count = 0 }

-- the words of heap q
abbrev pub words_at : List HeapWords → ℕ → HeapWords
words_at words q = slice_index_or words q empty_words

-- the modified word becomes the least of itself and `when`
abbrev pub noted : List HeapWords → ℕ → ℕ → List HeapWords
noted words q when = slice_set words q (record (words_at words q) { modified = min (words_at words q).modified when })

-- the heap word becomes the least of itself and v
abbrev pub lowered : List HeapWords → ℕ → ℕ → List HeapWords
lowered words q v = slice_set words q (record (words_at words q) { heap = min (words_at words q).heap v })

-- the modified word goes, where it is `seen`
abbrev pub cleared : List HeapWords → ℕ → ℕ → List HeapWords
cleared words q seen =
    if (words_at words q).modified == seen then slice_set words q (record (words_at words q) { modified = 2 ^ 64 - 1 })
    else words

-- the count rises by one, and stands still at the greatest `u64`
abbrev pub bumped : List HeapWords → ℕ → List HeapWords
bumped words q = slice_set words q (record (words_at words q) { count = min ((words_at words q).count + 1) (2 ^ 64 - 1) })

-- the heap word becomes v
abbrev pub raised : List HeapWords → ℕ → ℕ → List HeapWords
raised words q v = slice_set words q (record (words_at words q) { heap = v })
