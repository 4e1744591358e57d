mod TwoRanges
