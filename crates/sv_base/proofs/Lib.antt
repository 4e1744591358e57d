mod NameLists
