mod StopsLemmas
