-- From shapes to text: Scalable Vector Graphics 1.1, with no script, no outside font and no outside file.
use Rattle.std.specs.Prelude.{ℕ, ◌&&◌, Bool, List, [], ◌∷◌, ◌++◌, codes, decimal, if◌then◌else◌, nat_eq, nat_lt}
use Rattle.std.specs.List.{flat_map}
use Rattle.sal_shapes.specs.declared.scene.Picture.{Picture}
use Rattle.sal_shapes.specs.declared.scene.Shape.{Shape}
use Rattle.sal_shapes.specs.declared.scene.Shape.TheVariants.{Area, Line, Point, Words}
use Rattle.sal_shapes.specs.declared.scene.Size.{Size}
use Rattle.sal_shapes.specs.declared.scene.Spot.{Spot}
use Rattle.sal_shapes.specs.declared.scene.Style.{Style}
use Rattle.sal_shapes.specs.declared.scene.Style.TheVariants.{Lane, Bar, Axis, Stands, Makes, Told, Clash, Fails, Gives, Hands, Found, Chained, Commit, Opening, Refusal, Heading, Shared, Local, Refused, Place, Number, Beside, Meaning}
use Rattle.sal_shapes.specs.declared.svg.TheConstants.{HEAD, STYLES}

-- ---- texts

-- A byte of a text after the bytes p and q. A markup character is written as an entity; control characters, which XML does not allow, as spaces, and
-- U+FFFE and U+FFFF as U+FFFD.
abbrev pub escape : ℕ → ℕ → ℕ → List ℕ
escape p q b =
    if nat_eq b 38 then codes "&amp;"
    else (if nat_eq b 60 then codes "&lt;"
    else (if nat_eq b 62 then codes "&gt;"
    else (if nat_lt b 32 then 32 ∷ []
    else (if nat_eq p 239 && (nat_eq q 191 && nat_lt 189 b) then 189 ∷ [] else b ∷ []))))

abbrev pub escaped_behind : ℕ → ℕ → List ℕ → List ℕ
escaped_behind p q [] = []
escaped_behind p q (b ∷ bs) = escape p q b ++ escaped_behind q b bs

abbrev pub escaped : List ℕ → List ℕ
escaped text = escaped_behind 0 0 text

-- ---- elements

-- ` name='n'`
abbrev pub attribute : List ℕ → ℕ → List ℕ
attribute name n = 32 ∷ (name ++ (codes "='" ++ (decimal n ++ codes "'")))

abbrev pub two : List ℕ → ℕ → List ℕ → ℕ → List ℕ
two name n other m = attribute name n ++ attribute other m

-- a place on a line
abbrev pub place : Spot → List ℕ
place s = decimal s.x ++ (codes "," ++ (decimal s.y ++ codes " "))

-- the class of a style
abbrev pub class_of : Style → List ℕ
class_of Lane = codes "lane"
class_of Bar = codes "bar"
class_of Axis = codes "axis"
class_of Stands = codes "stands"
class_of Makes = codes "makes"
class_of Told = codes "told"
class_of Clash = codes "clash"
class_of Fails = codes "fails"
class_of Gives = codes "gives"
class_of Hands = codes "hands"
class_of Found = codes "found"
class_of Chained = codes "chained"
class_of Commit = codes "commit"
class_of Opening = codes "opening"
class_of Refusal = codes "refusal"
class_of Heading = codes "heading"
class_of Shared = codes "shared"
class_of Local = codes "local"
class_of Refused = codes "refused"
class_of Place = codes "place"
class_of Number = codes "number"
class_of Beside = codes "beside"
class_of Meaning = codes "meaning"

-- the beginning of an element
abbrev pub element : List ℕ → Style → List ℕ
element name style = codes "<" ++ (name ++ (codes " class='" ++ (class_of style ++ codes "'")))

-- a text with its title
abbrev pub words : List ℕ → List ℕ → List ℕ
words text title = codes "><title>" ++ (escaped title ++ (codes "</title>" ++ (escaped text ++ codes "</text>\n")))

abbrev pub shape_text : Shape → List ℕ
shape_text (Area style at size) = element (codes "rect") style ++ (two (codes "x") at.x (codes "y") at.y ++ (two (codes "width") size.width (codes "height") size.height ++ codes "/>\n"))
shape_text (Line style from by to) = element (codes "polyline") style ++ (codes " points='" ++ (place from ++ (place by ++ (place to ++ codes "'/>\n"))))
shape_text (Point style at) = element (codes "circle") style ++ (two (codes "cx") at.x (codes "cy") at.y ++ codes " r='4'/>\n")
shape_text (Words style at text title) = element (codes "text") style ++ (two (codes "x") at.x (codes "y") at.y ++ words text title)

-- ---- the whole

abbrev pub head_text : Size → List ℕ
head_text size = HEAD.now ++ (two (codes "width") size.width (codes "height") size.height ++ (codes ">\n" ++ STYLES.now))

abbrev pub svg_of : Picture → List ℕ
svg_of p = head_text p.size ++ (flat_map shape_text p.shapes ++ codes "</svg>\n")
