mod NoMarks
