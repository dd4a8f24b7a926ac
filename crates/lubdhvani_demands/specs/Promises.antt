-- What the exported calls promise of one call, on plain lists (FromContracts.antt beside this has that it is their contracts), and what a C caller sees of a
-- reading. Assumes nothing: these are definitions.
use Rattle.std.specs.Prelude.{◌≡◌, List, [], ◌∷◌, ℕ, ◌-◌, ◌≤◌, eqb, length, take}
use Rattle.gage_spec.specs.Permutation.{permute, unpermute}
use Rattle.digest_call.specs.Answers.{digest_answer, digest_out}
use Rattle.running_spec.specs.Running.{start_answer, start_record, start_number, feed_answer, feed_record, feed_number, finish_answer, finish_record, finish_out}
use Rattle.running_spec.specs.declared.Record.{Record}
use Rattle.ingage_spec.specs.Instances.{named}
use Rattle.ingage_answers.specs.Answers.{seal_named, open_named}
use Rattle.line_spec.specs.Lines.{longest}
use Rattle.line_layout.specs.Layouts.{layout_of}
use Rattle.frame_body.specs.Fields.{Own}
use Rattle.frame_spec.specs.Told.{told}
use Rattle.frame_write.specs.Answers.{write_call}
use Rattle.convert_spec.specs.Answers.{convert_call}
use Rattle.read_call.specs.Answers.{read_answer, read_out}
use Rattle.bundle_read.specs.Answers as judging
use Rattle.bundle_write.specs.Answers.{write_answer, write_out, name_part, rows_part}
use Rattle.demand_reading.specs.Promises.{Seen}
use Rattle.lubdhvani.specs.Calls.{permute_number, permute_state}
use Rattle.lubdhvani.specs.Answers.{digested, finished, sealed, opened, written, converted, bundled, judged, part_out}
use Rattle.lubdhvani.specs.Readings.{END, asked_of, reading_out}
use Rattle.lubdhvani.specs.declared.answers.Counted.{Counted}
use Rattle.lubdhvani.specs.declared.answers.Measured.{Measured}
use Rattle.lubdhvani.specs.declared.frame.Framed.{Framed}
use Rattle.lubdhvani.specs.declared.bundle.Part.{Part}
use Rattle.lubdhvani.specs.declared.read.Asked.{Asked}
use Rattle.lubdhvani.specs.declared.read.Reading.{Reading}
use Rattle.lubdhvani.specs.declared.walk.Walker.{Walker}

-- k rounds of the permutation on the state s, and their inverse, may answer r and leave s'
abbrev pub Permutes : List ℕ → ℕ → ℕ → List ℕ → Type 0
Permutes s k r s' = (r ≡ permute_number (length s) k) × (s' ≡ permute_state permute s k)

abbrev pub Unpermutes : List ℕ → ℕ → ℕ → List ℕ → Type 0
Unpermutes s k r s' = (r ≡ permute_number (length s) k) × (s' ≡ permute_state unpermute s k)

-- the digest of m with instance i and the buffer o may answer r and leave o'
abbrev pub Digests : ℕ → List ℕ → List ℕ → Counted → List ℕ → Type 0
Digests i m o r o' = (r ≡ digested (digest_answer i m o)) × (o' ≡ digest_out i m o)

-- start, feed and finish of the record h
abbrev pub Starts : Record → ℕ → ℕ → Record → Type 0
Starts h i r h' = (r ≡ start_number (start_answer i)) × (h' ≡ start_record h i)

abbrev pub Feeds : Record → List ℕ → ℕ → Record → Type 0
Feeds h b r h' = (r ≡ feed_number (feed_answer h b)) × (h' ≡ feed_record h b)

abbrev pub Finishes : Record → List ℕ → Counted → Record → List ℕ → Type 0
Finishes h o r h' o' = (r ≡ finished (finish_answer h o)) × (h' ≡ finish_record h o) × (o' ≡ finish_out h o)

-- seal and open at the instance i
abbrev pub Seals : ℕ → List ℕ → List ℕ → List ℕ → List ℕ → List ℕ → List ℕ → Counted → List ℕ → List ℕ → Type 0
Seals i key nonce A P out seal r out' seal' =
    (r ≡ sealed (seal_named (named i) key nonce A P out seal).answer)
    × ((out' ≡ (seal_named (named i) key nonce A P out seal).out) × (seal' ≡ (seal_named (named i) key nonce A P out seal).seal))

abbrev pub Opens : ℕ → List ℕ → List ℕ → List ℕ → List ℕ → List ℕ → List ℕ → Counted → List ℕ → Type 0
Opens i key nonce A C T out r out' =
    (r ≡ opened (open_named (named i) key nonce A C T out).answer) × (out' ≡ (open_named (named i) key nonce A C T out).out)

-- a write call of the line L under this key, font and layout's number, and with what is the frame's own, with the buffer f before it
abbrev pub Writes : List ℕ → Own → List ℕ → ℕ → List ℕ → List ℕ → Framed → List ℕ → Type 0
Writes key own font lay L f r f' =
    (r ≡ written (write_call (told key font (layout_of lay)) own L f).answer) × (f' ≡ (write_call (told key font (layout_of lay)) own L f).frame)

-- a call of the converter with the stretch s, alike
abbrev pub Converts : List ℕ → Own → List ℕ → ℕ → List ℕ → List ℕ → Measured → List ℕ → Type 0
Converts key own font lay s f r f' =
    (r ≡ converted (convert_call (told key font (layout_of lay)) own s f).answer) × (f' ≡ (convert_call (told key font (layout_of lay)) own s f).frame)

-- a read call of the stream s from a place, with the line buffer l before it, may answer r and leave l'
abbrev pub Reads : List ℕ → List ℕ → Asked → List ℕ → ℕ → List ℕ → Reading → List ℕ → Type 0
Reads key font asked s from l r l' =
    (r ≡ reading_out (read_answer (told key font (layout_of asked.layout)) (asked_of asked) s from l))
    × (l' ≡ read_out (told key font (layout_of asked.layout)) (asked_of asked) s from l)

-- a step of the walker w is a read call from the place reached, and w' is w at the place where that reading ends
abbrev pub Nexts : List ℕ → List ℕ → Asked → Walker → List ℕ → Reading → Walker → List ℕ → Type 0
Nexts key font asked w l r w' l' =
    (r ≡ reading_out (read_answer (told key font (layout_of asked.layout)) (asked_of asked) w.stream.now w.at l))
    × (l' ≡ read_out (told key font (layout_of asked.layout)) (asked_of asked) w.stream.now w.at l)
    × (w'.stream ≡ w.stream)
    × (w'.at ≡ r.closing)

-- the bundle's writer, its reader, and where its parts stand
abbrev pub BundleWrites : List ℕ → List ℕ → List ℕ → Measured → List ℕ → Type 0
BundleWrites name rows o r o' = (r ≡ bundled (write_answer name rows o)) × (o' ≡ write_out name rows o)

abbrev pub BundleReads : List ℕ → Measured → Type 0
BundleReads b r = r ≡ judged (judging.read_answer b)

abbrev pub BundleNames : List ℕ → Part → Type 0
BundleNames b p = p ≡ part_out (name_part b)

abbrev pub BundleRows : List ℕ → ℕ → Part → Type 0
BundleRows b c p = p ≡ part_out (rows_part b c)

-- all that a C caller sees of a reading, with places counted from place i
abbrev pub seen_from : ℕ → Reading → List ℕ → Seen
seen_from i r l' = record {
  number = r.number;
  ended = eqb r.outcome END;
  first = r.first - i;
  closing = r.closing - i;
  calls = r.calls;
  edition = r.edition;
  job = r.job;
  line = take r.length l';
}

-- some read calls one after the other with room enough for a line, the first from a place, each next one from where the one before
-- closed; and what is seen of them with places counted from place i. Each call may have a line buffer of its own
pub data Run (key font : List ℕ) (asked : Asked) (s : List ℕ) (i : ℕ) : ℕ → List Seen → Type 0 where
  none : {from : ℕ} → Run key font asked s i from []
  next : {from : ℕ} (r : Reading) (l l' : List ℕ) {rest : List Seen} → longest ≤ length l → Reads key font asked s from l r l'
      → Run key font asked s i r.closing rest → Run key font asked s i from (seen_from i r l' ∷ rest)

-- some steps of a walker, alike
pub data Walk (key font : List ℕ) (asked : Asked) : Walker → List Seen → Type 0 where
  stays : {w : Walker} → Walk key font asked w []
  moves : {w : Walker} (r : Reading) (w' : Walker) (l l' : List ℕ) {rest : List Seen} → longest ≤ length l → Nexts key font asked w l r w' l'
      → Walk key font asked w' rest → Walk key font asked w (seen_from 0 r l' ∷ rest)
