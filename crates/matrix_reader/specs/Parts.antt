-- Definitions only.
-- What each part of the reader promises of what it read from the front of a text, over the definitions of reading.
use Rattle.std.specs.Prelude.{ℕ, ◌*◌, ◌≤◌, ℤ, length, take, drop, Bool, true, false, ◌&&◌, List, ◌≡◌, Option, is_some, IfSome}
use Rattle.limits.specs.Limits.{most_tanks}
use Rattle.buffer.specs.Buffer.{begins_by}
use Rattle.matrixfile.specs.Read.{after_comments, size_fine, size_of, behind_size, entry_fine, entry_of, after_entry, entries_fine, entries_of, at_size_line, tanks_in, at_entries}
use Rattle.matrixfile.specs.Text.{first_line}
use Rattle.matrix_reader.specs.declared.Entry.{Entry}
use Rattle.matrix_reader.specs.declared.Size.{Size}

-- k bytes of s lie before the list that is left
pub record LeavesBehind (s : List ℕ) (k : ℕ) (left : List ℕ) : Type 0 where
  pub inside : k ≤ length s
  pub is : drop k s ≡ left

abbrev pub CommentsRead : List ℕ → ℕ → Type 0
CommentsRead s k = LeavesBehind s k (after_comments false s)

pub record SizeRead (s : List ℕ) (r : Option Size) : Type 0 where
  pub fine : is_some r ≡ size_fine s
  pub tanks : IfSome r (λ z. z.n ≡ size_of s)
  pub behind : IfSome r (λ z. LeavesBehind s z.len (behind_size s))

pub record HeaderRead (text : List ℕ) (r : Option Size) : Type 0 where
  pub fine : is_some r ≡ (begins_by first_line text && size_fine (at_size_line text))
  pub tanks : IfSome r (λ z. z.n ≡ tanks_in text)
  pub behind : IfSome r (λ z. LeavesBehind text z.len (at_entries text))

pub record EntryRead (s : List ℕ) (r : Option Entry) : Type 0 where
  pub fine : is_some r ≡ entry_fine s
  pub value : IfSome r (λ e. e.value ≡ entry_of s)
  pub behind : IfSome r (λ e. LeavesBehind s e.len (after_entry s))

-- so many entries over the front of a list
pub record EntriesRead (count : ℕ) (s : List ℕ) (r : Bool) (columns : List ℤ) : Type 0 where
  pub fine : r ≡ entries_fine count s
  pub entries : r ≡ true → take count columns ≡ entries_of count s

-- n rows of n, at least one, in a list of so many places
pub record Square (n places : ℕ) : Type 0 where
  pub least : 1 ≤ n
  pub small : n ≤ most_tanks
  pub room : n * n ≤ places
